-- The contracts about one section each leave nothing open: sections 1 and 3 to 7, and the points of a grid.
use mathlib.Core.Path.{refl}
use Rattle.theorems_outcomes.specs.Determined.{Determined, SeenDetermined}
use Rattle.theorems_outcomes.proofs.Facts.{alike, one}
use Rattle.section_1.specs.contracts as section_1
use Rattle.section_3_geometry.specs.contracts as section_3_geometry
use Rattle.section_3_positions.specs.contracts as section_3_positions
use Rattle.section_3_lambert.specs.contracts as section_3_lambert
use Rattle.section_3.specs.contracts as section_3
use Rattle.section_4.specs.contracts as section_4
use Rattle.section_5_groups.specs.contracts as section_5_groups
use Rattle.section_5.specs.contracts as section_5
use Rattle.section_6.specs.contracts as section_6
use Rattle.section_7_layout.specs.contracts as section_7_layout
use Rattle.section_7.specs.contracts as section_7

-- Section 1.
pub section_1_identification_at : Determined section_1.identification_at.ended (λ _ _. section_1.identification_at.clauses)
section_1_identification_at _ 𝓤 𝓛 _ _ _ _ _ _ _ _ _ _ = one 𝓤 (λ p q. (alike p q, refl))

-- The points of a grid.
pub section_3_geometry_frame_of : Determined section_3_geometry.frame_of.ended (λ _ _. section_3_geometry.frame_of.clauses)
section_3_geometry_frame_of _ 𝓤 𝓛 _ _ _ _ _ _ _ _ _ _ = one 𝓤 (λ p q. (alike p q, refl))

pub section_3_geometry_is_counted : Determined section_3_geometry.is_counted.ended (λ _ _. section_3_geometry.is_counted.clauses)
section_3_geometry_is_counted _ 𝓤 𝓛 _ _ _ _ _ _ _ _ _ _ = one 𝓤 (λ p q. (alike p q, refl))

pub section_3_geometry_is_position : Determined section_3_geometry.is_position.ended (λ _ _. section_3_geometry.is_position.clauses)
section_3_geometry_is_position _ 𝓤 𝓛 _ _ _ _ _ _ _ _ _ _ = one 𝓤 (λ p q. (alike p q, refl))

pub section_3_geometry_is_taken : Determined section_3_geometry.is_taken.ended (λ _ _. section_3_geometry.is_taken.clauses)
section_3_geometry_is_taken _ 𝓤 𝓛 _ _ _ _ _ _ _ _ _ _ = one 𝓤 (λ p q. (alike p q, refl))

pub section_3_geometry_south_of : Determined section_3_geometry.south_of.ended (λ _ _. section_3_geometry.south_of.clauses)
section_3_geometry_south_of _ 𝓤 𝓛 _ _ _ _ _ _ _ _ _ _ = one 𝓤 (λ p q. (alike p q, refl))

pub section_3_geometry_span_east : Determined section_3_geometry.span_east.ended (λ _ _. section_3_geometry.span_east.clauses)
section_3_geometry_span_east _ 𝓤 𝓛 _ _ _ _ _ _ _ _ _ _ = one 𝓤 (λ p q. (alike p q, refl))

pub section_3_geometry_span_south : Determined section_3_geometry.span_south.ended (λ _ _. section_3_geometry.span_south.clauses)
section_3_geometry_span_south _ 𝓤 𝓛 _ _ _ _ _ _ _ _ _ _ = one 𝓤 (λ p q. (alike p q, refl))

pub section_3_geometry_points_of : Determined section_3_geometry.points_of.ended (λ _ _. section_3_geometry.points_of.clauses)
section_3_geometry_points_of _ 𝓤 𝓛 _ _ _ _ _ _ _ _ _ _ = one 𝓤 (λ p q. (alike p q, refl))

pub section_3_positions_position_of : Determined section_3_positions.position_of.ended (λ _ _. section_3_positions.position_of.clauses)
section_3_positions_position_of _ 𝓤 𝓛 _ _ _ _ _ _ _ _ _ _ = one 𝓤 (λ p q. (alike p q, refl))

pub section_3_lambert_is_taken : Determined section_3_lambert.is_taken.ended (λ _ _. section_3_lambert.is_taken.clauses)
section_3_lambert_is_taken _ 𝓤 𝓛 _ _ _ _ _ _ _ _ _ _ = one 𝓤 (λ p q. (alike p q, refl))

pub section_3_lambert_sheet_of : Determined section_3_lambert.sheet_of.ended (λ _ _. section_3_lambert.sheet_of.clauses)
section_3_lambert_sheet_of _ 𝓤 𝓛 _ _ _ _ _ _ _ _ _ _ = one 𝓤 (λ p q. (alike p q, refl))

-- Section 3.
pub section_3_grid_at : Determined section_3.grid_at.ended (λ _ _. section_3.grid_at.clauses)
section_3_grid_at _ 𝓤 𝓛 _ _ _ _ _ _ _ _ _ _ = one 𝓤 (λ p q. (alike p q, refl))

-- Section 4.
pub section_4_product_definition_at : Determined section_4.product_definition_at.ended (λ _ _. section_4.product_definition_at.clauses)
section_4_product_definition_at _ 𝓤 𝓛 _ _ _ _ _ _ _ _ _ _ = one 𝓤 (λ p q. (alike p q, refl))

pub section_4_KindTryFromU8_try_from : Determined section_4.KindTryFromU8.try_from.ended (λ _ _. section_4.KindTryFromU8.try_from.clauses)
section_4_KindTryFromU8_try_from _ 𝓤 𝓛 _ _ _ _ _ _ _ _ _ _ = one 𝓤 (λ p q. (alike p q, refl))

-- Section 5.
pub section_5_groups_grouping_at : Determined section_5_groups.grouping_at.ended (λ _ _. section_5_groups.grouping_at.clauses)
section_5_groups_grouping_at _ 𝓤 𝓛 _ _ _ _ _ _ _ _ _ _ = one 𝓤 (λ p q. (alike p q, refl))

pub section_5_groups_is_differenced : Determined section_5_groups.is_differenced.ended (λ _ _. section_5_groups.is_differenced.clauses)
section_5_groups_is_differenced _ 𝓤 𝓛 _ _ _ _ _ _ _ _ _ _ = one 𝓤 (λ p q. (alike p q, refl))

pub section_5_groups_is_grouping : Determined section_5_groups.is_grouping.ended (λ _ _. section_5_groups.is_grouping.clauses)
section_5_groups_is_grouping _ 𝓤 𝓛 _ _ _ _ _ _ _ _ _ _ = one 𝓤 (λ p q. (alike p q, refl))

pub section_5_representation_at : Determined section_5.representation_at.ended (λ _ _. section_5.representation_at.clauses)
section_5_representation_at _ 𝓤 𝓛 _ _ _ _ _ _ _ _ _ _ = one 𝓤 (λ p q. (alike p q, refl))

-- Section 6. Of a bitmap, handed back as a part of the file, it is the octets that are seen.
pub section_6_bitmap_in_force : SeenDetermined section_6.bitmap_in_force.ended _ (λ _. (λ x. x.now)) (λ _ _. section_6.bitmap_in_force.clauses)
section_6_bitmap_in_force _ 𝓤 𝓛 _ _ _ _ _ _ _ _ _ _ = one 𝓤 (λ p q. (alike p q, refl))

pub section_6_presence_at : Determined section_6.presence_at.ended (λ _ _. section_6.presence_at.clauses)
section_6_presence_at _ 𝓤 𝓛 _ _ _ _ _ _ _ _ _ _ = one 𝓤 (λ p q. (alike p q, refl))

-- Section 7.
pub section_7_layout_differencing_at : Determined section_7_layout.differencing_at.ended (λ _ _. section_7_layout.differencing_at.clauses)
section_7_layout_differencing_at _ 𝓤 𝓛 _ _ _ _ _ _ _ _ _ _ = one 𝓤 (λ p q. (alike p q, refl))

pub section_7_layout_layout_of : Determined section_7_layout.layout_of.ended (λ _ _. section_7_layout.layout_of.clauses)
section_7_layout_layout_of _ 𝓤 𝓛 _ _ _ _ _ _ _ _ _ _ = one 𝓤 (λ p q. (alike p q, refl))

pub section_7_layout_stored : Determined section_7_layout.stored.ended (λ _ _. section_7_layout.stored.clauses)
section_7_layout_stored _ 𝓤 𝓛 _ _ _ _ _ _ _ _ _ _ = one 𝓤 (λ p q. (alike p.0 q.0, refl))

pub section_7_layout_width_of : Determined section_7_layout.width_of.ended (λ _ _. section_7_layout.width_of.clauses)
section_7_layout_width_of _ 𝓤 𝓛 _ _ _ _ _ _ _ _ _ _ = one 𝓤 (λ p q. (alike p q, refl))

pub section_7_layout_length_of : Determined section_7_layout.length_of.ended (λ _ _. section_7_layout.length_of.clauses)
section_7_layout_length_of _ 𝓤 𝓛 _ _ _ _ _ _ _ _ _ _ = one 𝓤 (λ p q. (alike p.0 q.0, refl))

pub section_7_data_at : Determined section_7.data_at.ended (λ _ _. section_7.data_at.clauses)
section_7_data_at _ 𝓤 𝓛 _ _ _ _ _ _ _ _ _ _ = one 𝓤 (λ p q. (alike p q, refl))

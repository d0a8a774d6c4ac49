-- The contracts of the questions leave nothing open, refused calls included: what is answered, and what the lent runs hold afterwards.
use mathlib.Core.List.{List}
use mathlib.Core.Path.{refl}
use Prim.Native.Nat.{ℕ}
use Rattle.section_7.specs.declared.Groups.{Groups}
use Rattle.theorems_outcomes.specs.Determined.{Determined, SeenDetermined}
use Rattle.theorems_outcomes.proofs.Facts.{alike, one, two, three}
use Rattle.question.specs.contracts as question
use Rattle.question_numbers.specs.contracts as question_numbers
use Rattle.question_place.specs.contracts as question_place
use Rattle.question_decode.specs.contracts as question_decode
use Rattle.question_point.specs.contracts as question_point
use Rattle.question_picture.specs.contracts as question_picture
use Rattle.skeptolyr.specs.contracts as skeptolyr
use Rattle.listing_lines.specs.contracts as listing_lines
use Rattle.listing_file.specs.contracts as listing_file
use Rattle.listing_file.proofs.Laws.{print_one}

-- What is described, how a question is judged, and where a point is placed, in degrees and on the sheet.
pub question_describe : Determined question.describe.ended (λ _ _. question.describe.clauses)
question_describe _ 𝓤 𝓛 _ _ _ _ _ _ _ _ _ _ = one 𝓤 (λ p q. (alike p q, refl))

-- What a field that is described has: its points, its packed integers, alone, with their bits and with their groups, and its bitmap. Of all but the first it is
-- the octets that are seen.
pub question_DescribedField_points : Determined question.DescribedField.points.ended (λ _ _. question.DescribedField.points.clauses)
question_DescribedField_points _ 𝓤 𝓛 _ _ _ _ _ _ _ _ _ _ = one 𝓤 (λ p q. (alike p.0 q.0, refl))

pub question_DescribedField_packed : SeenDetermined question.DescribedField.packed.ended _ (λ _. (λ x. x.now)) (λ _ _. question.DescribedField.packed.clauses)
question_DescribedField_packed _ 𝓤 𝓛 _ _ _ _ _ _ _ _ _ _ = one 𝓤 (λ p q. (alike p q, refl))

pub question_DescribedField_numbered : SeenDetermined question.DescribedField.numbered.ended (λ _. List ℕ × ℕ) (λ _. (λ x. (x.section.now, x.bits))) (λ _ _. question.DescribedField.numbered.clauses)
question_DescribedField_numbered _ 𝓤 𝓛 _ _ _ _ _ _ _ _ _ _ = one 𝓤 (λ p q. (λ i. (alike p.0 q.0 i, alike p.1 q.1 i), refl))

pub question_DescribedField_grouped : SeenDetermined question.DescribedField.grouped.ended (λ _. List ℕ × Groups) (λ _. (λ x. (x.section.now, x.groups))) (λ _ _. question.DescribedField.grouped.clauses)
question_DescribedField_grouped _ 𝓤 𝓛 _ _ _ _ _ _ _ _ _ _ = one 𝓤 (λ p q. (λ i. (alike p.0 q.0 i, alike p.1 q.1 i), refl))

pub question_DescribedField_bitmap : SeenDetermined question.DescribedField.bitmap.ended _ (λ _. (λ x. x.now)) (λ _ _. question.DescribedField.bitmap.clauses)
question_DescribedField_bitmap _ 𝓤 𝓛 _ _ _ _ _ _ _ _ _ _ = one 𝓤 (λ p q. (alike p q, refl))

pub question_judge_numbers : Determined question.judge_numbers.ended (λ _ _. question.judge_numbers.clauses)
question_judge_numbers _ 𝓤 𝓛 _ _ _ _ _ _ _ _ _ _ = one 𝓤 (λ p q. (alike p q, refl))

pub question_judge_values : Determined question.judge_values.ended (λ _ _. question.judge_values.clauses)
question_judge_values _ 𝓤 𝓛 _ _ _ _ _ _ _ _ _ _ = one 𝓤 (λ p q. (alike p q, refl))

pub question_place_place : Determined question_place.place.ended (λ _ _. question_place.place.clauses)
question_place_place _ 𝓤 𝓛 _ _ _ _ _ _ _ _ _ _ = one 𝓤 (λ p q. (alike p q, refl))

pub question_place_sheet : Determined question_place.sheet.ended (λ _ _. question_place.sheet.clauses)
question_place_sheet _ 𝓤 𝓛 _ _ _ _ _ _ _ _ _ _ = one 𝓤 (λ p q. (alike p q, refl))

-- On which grid a point is told, or why it is not.
pub question_place_on_degrees : Determined question_place.on_degrees.ended (λ _ _. question_place.on_degrees.clauses)
question_place_on_degrees _ 𝓤 𝓛 _ _ _ _ _ _ _ _ _ _ = one 𝓤 (λ p q. (alike p q, refl))

pub question_place_on_lambert : Determined question_place.on_lambert.ended (λ _ _. question_place.on_lambert.clauses)
question_place_on_lambert _ 𝓤 𝓛 _ _ _ _ _ _ _ _ _ _ = one 𝓤 (λ p q. (alike p q, refl))

-- Whether a point is there, and whether its run is long enough.
pub question_place_point_asked : Determined question_place.point_asked.ended (λ _ _. question_place.point_asked.clauses)
question_place_point_asked _ 𝓤 𝓛 _ _ _ _ _ _ _ _ _ _ = one 𝓤 (λ p q. (alike p q, refl))

-- The value of a point, or that it is missing.
pub question_point_point : Determined question_point.point.ended (λ _ _. question_point.point.clauses)
question_point_point _ 𝓤 𝓛 _ _ _ _ _ _ _ _ _ _ = one 𝓤 (λ p q. (alike p q, refl))

pub question_point_point_into : Determined question_point.point_into.ended (λ _ _. question_point.point_into.clauses)
question_point_point_into _ 𝓤 𝓛 _ _ _ _ _ _ _ _ _ _ = one 𝓤 (λ p q. (alike p q, refl))

-- The length of a picture, and the run of octets afterwards.
pub question_picture_picture : Determined question_picture.picture.ended (λ _ _. question_picture.picture.clauses)
question_picture_picture _ 𝓤 𝓛 _ _ _ _ _ _ _ _ _ _ = two 𝓤 (λ p q. (alike p.0 q.0, λ i. (tt, (tt, (alike p.1 q.1 i, tt)))))

-- The packing record of a field.
pub question_decode_packing_of : Determined question_decode.packing_of.ended (λ _ _. question_decode.packing_of.clauses)
question_decode_packing_of _ 𝓤 𝓛 _ _ _ _ _ _ _ _ _ _ = one 𝓤 (λ p q. (alike p q, refl))

-- What is answered, and both runs afterwards.
pub question_decode_decode : Determined question_decode.decode.ended (λ _ _. question_decode.decode.clauses)
question_decode_decode _ 𝓤 𝓛 _ _ _ _ _ _ _ _ _ _ =
    three 𝓤 (λ p q. (alike p.0 q.0, λ i. (tt, (tt, (tt, (alike p.1.0 q.1.0 i, (alike p.1.1 q.1.1 i, tt)))))))

-- What C is answered, and both runs afterwards.
pub skeptolyr_skeptolyr_check : Determined skeptolyr.skeptolyr_check.ended (λ _ _. skeptolyr.skeptolyr_check.clauses)
skeptolyr_skeptolyr_check _ 𝓤 𝓛 _ _ _ _ _ _ _ _ _ _ = one 𝓤 (λ p q. (alike p q, refl))

pub skeptolyr_skeptolyr_decode : Determined skeptolyr.skeptolyr_decode.ended (λ _ _. skeptolyr.skeptolyr_decode.clauses)
skeptolyr_skeptolyr_decode _ 𝓤 𝓛 _ _ _ _ _ _ _ _ _ _ =
    three 𝓤 (λ p q. (alike p.0 q.0, λ i. (tt, (tt, (tt, (alike p.1.0 q.1.0 i, (alike p.1.1 q.1.1 i, tt)))))))

-- What C is answered, and the run of numbers afterwards.
pub skeptolyr_skeptolyr_describe : Determined skeptolyr.skeptolyr_describe.ended (λ _ _. skeptolyr.skeptolyr_describe.clauses)
skeptolyr_skeptolyr_describe _ 𝓤 𝓛 _ _ _ _ _ _ _ _ _ _ = two 𝓤 (λ p q. (alike p.0 q.0, λ i. (tt, (tt, (alike p.1 q.1 i, tt)))))

pub skeptolyr_skeptolyr_place : Determined skeptolyr.skeptolyr_place.ended (λ _ _. skeptolyr.skeptolyr_place.clauses)
skeptolyr_skeptolyr_place _ 𝓤 𝓛 _ _ _ _ _ _ _ _ _ _ = two 𝓤 (λ p q. (alike p.0 q.0, λ i. (tt, (tt, (tt, (alike p.1 q.1 i, tt))))))

pub skeptolyr_skeptolyr_sheet : Determined skeptolyr.skeptolyr_sheet.ended (λ _ _. skeptolyr.skeptolyr_sheet.clauses)
skeptolyr_skeptolyr_sheet _ 𝓤 𝓛 _ _ _ _ _ _ _ _ _ _ = two 𝓤 (λ p q. (alike p.0 q.0, λ i. (tt, (tt, (tt, (alike p.1 q.1 i, tt))))))

-- What C is answered, and the run of one value afterwards.
pub skeptolyr_skeptolyr_point : Determined skeptolyr.skeptolyr_point.ended (λ _ _. skeptolyr.skeptolyr_point.clauses)
skeptolyr_skeptolyr_point _ 𝓤 𝓛 _ _ _ _ _ _ _ _ _ _ = two 𝓤 (λ p q. (alike p.0 q.0, λ i. (tt, (tt, (tt, (alike p.1 q.1 i, tt))))))

-- What C is answered, and the run of octets afterwards.
pub skeptolyr_skeptolyr_picture : Determined skeptolyr.skeptolyr_picture.ended (λ _ _. skeptolyr.skeptolyr_picture.clauses)
skeptolyr_skeptolyr_picture _ 𝓤 𝓛 _ _ _ _ _ _ _ _ _ _ = two 𝓤 (λ p q. (alike p.0 q.0, λ i. (tt, (tt, (alike p.1 q.1 i, tt)))))

-- The numbers of a description and of a place, put into a lent run: where they end, and what the run holds afterwards.
pub question_numbers_put_description : Determined question_numbers.put_description.ended (λ _ _. question_numbers.put_description.clauses)
question_numbers_put_description _ 𝓤 𝓛 _ _ _ _ _ _ _ _ _ _ = one 𝓤 (λ p q. (alike p.1 q.1, λ i. (alike p.0 q.0 i, (tt, tt))))

pub question_numbers_put_position : Determined question_numbers.put_position.ended (λ _ _. question_numbers.put_position.clauses)
question_numbers_put_position _ 𝓤 𝓛 _ _ _ _ _ _ _ _ _ _ = one 𝓤 (λ p q. (alike p.1 q.1, λ i. (alike p.0 q.0 i, (tt, tt))))

pub question_numbers_put_sheet : Determined question_numbers.put_sheet.ended (λ _ _. question_numbers.put_sheet.clauses)
question_numbers_put_sheet _ 𝓤 𝓛 _ _ _ _ _ _ _ _ _ _ = one 𝓤 (λ p q. (alike p.1 q.1, λ i. (alike p.0 q.0 i, (tt, tt))))

-- What a line says, put into a lent run: where it ends, and what the run holds afterwards.
pub listing_lines_put_refusal : Determined listing_lines.put_refusal.ended (λ _ _. listing_lines.put_refusal.clauses)
listing_lines_put_refusal _ 𝓤 𝓛 _ _ _ _ _ _ _ _ _ _ = one 𝓤 (λ p q. (alike p.1 q.1, λ i. (alike p.0 q.0 i, (tt, (tt, tt)))))

pub listing_lines_put_field : Determined listing_lines.put_field.ended (λ _ _. listing_lines.put_field.clauses)
listing_lines_put_field _ 𝓤 𝓛 _ _ _ _ _ _ _ _ _ _ = one 𝓤 (λ p q. (alike p.1 q.1, λ i. (alike p.0 q.0 i, (tt, (tt, tt)))))

-- The whole listing, in the same way.
pub listing_file_list : Determined listing_file.list.ended (λ _ _. listing_file.list.clauses)
listing_file_list _ 𝓤 𝓛 _ _ _ _ _ _ _ _ _ _ = one 𝓤 (λ p q. (alike p.1 q.1, λ i. (alike p.0 q.0 i, (tt, tt))))

-- What is printed of an input: how much of the text, to which file descriptor, and what the text holds afterwards.
pub listing_file_print : Determined listing_file.print.ended (λ _ _. listing_file.print.clauses)
listing_file_print _ 𝓤 𝓛 _ _ _ _ _ _ _ _ _ _ = one 𝓤 (λ p q. ((print_one p q).0, λ i. ((print_one p q).1 i, (tt, (tt, (tt, tt))))))

-- The chain of describe, link by link: each section is taken, or not. What holds where it is not taken, and behind it where it is, holds of the answer.
use mathlib.Core.Path.{◌≡◌, refl}
use mathlib.Core.List.{List}
use Prim.Native.Nat.{ℕ}
use Rattle.refusals.specs.declared.Why.TheVariants as Why
use Rattle.tiling_sections.specs.declared.Located.{Located}
use Rattle.section_1.specs.declared.Identification.{Identification}
use Rattle.section_1.specs.Identification.{identification_at}
use Rattle.section_3_geometry.specs.declared.Grid.{Grid}
use Rattle.section_3_geometry.specs.Geometry.{points_of}
use Rattle.section_3.specs.Section3.{grid_at}
use Rattle.section_4.specs.declared.ProductDefinition.{ProductDefinition}
use Rattle.section_4.specs.Product.{product_definition_at}
use Rattle.section_5.specs.declared.Representation.{Representation}
use Rattle.section_5.specs.Representation.{representation_at}
use Rattle.section_6.specs.declared.Presence.{Presence}
use Rattle.section_6.specs.Presence.{presence_at}
use Rattle.section_7.specs.declared.Data.{Data}
use Rattle.section_7.specs.Packing.{data_at}
use Rattle.question.specs.declared.Description.{Description}
use Rattle.question.specs.Describe.{discipline_at, refused_at, packed, marked, represented, defined, gridded, identified, described_at}
use Rattle.std.specs.Prelude.{Option, Some, None, Result, Ok}
use Rattle.refusals.specs.declared.Refusal.{Refusal}

module _ (file : List ℕ) (l : Located) (P : Result Description Refusal → Type 0) where
  pub at_section_1 :
      (identification_at file l.starts.one.0 ≡ None → P (refused_at Why.BadIdentification l.starts.one.0)) →
      ((i : Identification) → identification_at file l.starts.one.0 ≡ Some i → P (gridded file l i (grid_at file l.starts.three.0))) →
      P (described_at file l)
  unfolding described_at
  at_section_1 refused taken = by _ refl
    where
      by : (a : Option Identification) → identification_at file l.starts.one.0 ≡ a → P (identified file l a)
      by (Some i) e = taken i e
      by None e = refused e

  module _ (i : Identification) where
    pub at_section_3 :
        (grid_at file l.starts.three.0 ≡ None → P (refused_at Why.BadGrid l.starts.three.0)) →
        ((g : Grid) → grid_at file l.starts.three.0 ≡ Some g → P (defined file l i g (product_definition_at file l.starts.four.0 i.reference))) →
        P (gridded file l i (grid_at file l.starts.three.0))
    at_section_3 refused taken = by _ refl
      where
        by : (a : Option Grid) → grid_at file l.starts.three.0 ≡ a → P (gridded file l i a)
        by (Some g) e = taken g e
        by None e = refused e

    module _ (g : Grid) where
      pub at_section_4 :
          (product_definition_at file l.starts.four.0 i.reference ≡ None → P (refused_at Why.BadProduct l.starts.four.0)) →
          ((m : ProductDefinition) → product_definition_at file l.starts.four.0 i.reference ≡ Some m → P (represented file l i g m (representation_at file l.starts.five.0))) →
          P (defined file l i g (product_definition_at file l.starts.four.0 i.reference))
      at_section_4 refused taken = by _ refl
        where
          by : (a : Option ProductDefinition) → product_definition_at file l.starts.four.0 i.reference ≡ a → P (defined file l i g a)
          by (Some m) e = taken m e
          by None e = refused e

      module _ (m : ProductDefinition) where
        pub at_section_5 :
            (representation_at file l.starts.five.0 ≡ None → P (refused_at Why.BadRepresentation l.starts.five.0)) →
            ((r : Representation) → representation_at file l.starts.five.0 ≡ Some r → P (marked file l i g m r (presence_at file l.starts.six.0 l.bitmap (points_of g) r.n))) →
            P (represented file l i g m (representation_at file l.starts.five.0))
        at_section_5 refused taken = by _ refl
          where
            by : (a : Option Representation) → representation_at file l.starts.five.0 ≡ a → P (represented file l i g m a)
            by (Some r) e = taken r e
            by None e = refused e

        module _ (r : Representation) where
          pub at_section_6 :
              (presence_at file l.starts.six.0 l.bitmap (points_of g) r.n ≡ None → P (refused_at Why.BadBitmap l.starts.six.0)) →
              ((p : Presence) → presence_at file l.starts.six.0 l.bitmap (points_of g) r.n ≡ Some p → P (packed file l i g m r p (data_at file l.starts.seven.0 r))) →
              P (marked file l i g m r (presence_at file l.starts.six.0 l.bitmap (points_of g) r.n))
          at_section_6 refused taken = by _ refl
            where
              by : (a : Option Presence) → presence_at file l.starts.six.0 l.bitmap (points_of g) r.n ≡ a → P (marked file l i g m r a)
              by (Some p) e = taken p e
              by None e = refused e

          module _ (p : Presence) where
            -- The description that is given where every section is taken.
            abbrev pub whole : Data → Description
            whole plan = record { discipline = discipline_at file l; identification = i; grid = g; definition = m; representation = r; presence = p; plan = plan; starts = l.starts }

            pub at_section_7 :
                (data_at file l.starts.seven.0 r ≡ None → P (refused_at Why.BadPacking l.starts.seven.0)) →
                ((x : Data) → data_at file l.starts.seven.0 r ≡ Some x → P (Ok (whole x))) →
                P (packed file l i g m r p (data_at file l.starts.seven.0 r))
            at_section_7 refused taken = by _ refl
              where
                by : (a : Option Data) → data_at file l.starts.seven.0 r ≡ a → P (packed file l i g m r p a)
                by (Some x) e = taken x e
                by None e = refused e

-- Which octets decide whether a section 1 is one, and that a time that it tells is Gregorian.
use mathlib.Core.Path.{◌≡◌, refl, subst}
use mathlib.Core.List.{List}
use Prim.Native.Nat.{ℕ}
use borrow.Author.Tests.{eq-eqb}
use lib.Dec.{leb}
use Rattle.octets.specs.Places.{place_of}
use Rattle.octets.proofs.Cases.{apart, split}
use Rattle.section.specs.Sections.{octet, held, length_at}
use Rattle.calendar.specs.Calendar.{time_at, Gregorian}
use Rattle.calendar.proofs.Laws.{read_is_gregorian}
use Rattle.section_1.specs.declared.Identification.{Identification}
use Rattle.section_1.specs.Identification.{is_identification, timed, identification_at}
use Rattle.std.specs.Prelude.{Option, Some, None}
use Rattle.calendar.specs.declared.Time.{Time}

module _ (file : List ℕ) (s : ℕ) where
  -- Where the octets before it are as they are to be, the status decides.
  pub status_decides : (length_at file s ≡ 21) × (held file s 6 7 ≡ 34) × (octet file s 12 ≡ 1) → is_identification file s ≡ leb (octet file s 20) 1
  status_decides h = simp (eq-eqb _ _ h.0, eq-eqb _ _ h.1, eq-eqb _ _ h.2)

  timed_gregorian : {i : Identification} (time : Option Time) → time_at file (place_of s 13) ≡ time → timed file s time ≡ Some i → Gregorian i.reference
  timed_gregorian {i} (Some t) read said =
      let same : record { status = octet file s 20; reference = t } ≡ i = cc in
      subst (λ (i : Identification). Gregorian i.reference) same (read_is_gregorian file (place_of s 13) t read)
  timed_gregorian {i} None read said = apart cc

  -- The reference time of a section 1 is Gregorian.
  pub identified_gregorian : {i : Identification} → identification_at file s ≡ Some i → Gregorian i.reference
  unfolding identification_at
  identified_gregorian {i} said =
      split (is_identification file s) (λ e. timed_gregorian (time_at file (place_of s 13)) refl (rw e at said))
      (λ e. apart (cc (rw e at said)))

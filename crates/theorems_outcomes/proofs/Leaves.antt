-- The contracts of the lowest crates leave nothing open: places and numbers, one section, bits, refusals, times, text, greys and doubles.
use mathlib.Core.Path.{refl}
use denote.RattleType.{RattleType}
use mir.Syntax.{Dict}
use Rattle.std.specs.declared.clone.Clone.{Ghosts}
use Rattle.theorems_outcomes.specs.Determined.{Determined, SeenDetermined}
use Rattle.theorems_outcomes.proofs.Facts.{alike, one, three}
use Rattle.octets.specs.contracts as octets
use Rattle.section.specs.contracts as section
use Rattle.bits.specs.contracts as bits
use Rattle.bits_ones.specs.contracts as bits_ones
use Rattle.bits_reader.specs.contracts as bits_reader
use Rattle.refusals.specs.contracts as refusals
use Rattle.calendar.specs.contracts as calendar
use Rattle.text.specs.contracts as text
use Rattle.greys.specs.contracts as greys
use Rattle.doubles.specs.contracts as doubles

-- A place is a record of one number.
pub octets_place_of : Determined octets.place_of.ended (λ _ _. octets.place_of.clauses)
octets_place_of _ 𝓤 𝓛 _ _ _ _ _ _ _ _ _ _ = one 𝓤 (λ p q. (λ i. record { 0 = alike p q i }, refl))

pub octets_first_bit : Determined octets.first_bit.ended (λ _ _. octets.first_bit.clauses)
octets_first_bit _ 𝓤 𝓛 _ _ _ _ _ _ _ _ _ _ = one 𝓤 (λ p q. (λ i. record { 0 = alike p q i }, refl))

pub octets_octet_holding : Determined octets.octet_holding.ended (λ _ _. octets.octet_holding.clauses)
octets_octet_holding _ 𝓤 𝓛 _ _ _ _ _ _ _ _ _ _ = one 𝓤 (λ p q. (λ i. record { 0 = alike p q i }, refl))

pub octets_number_at : Determined octets.number_at.ended (λ _ _. octets.number_at.clauses)
octets_number_at _ 𝓤 𝓛 _ _ _ _ _ _ _ _ _ _ = one 𝓤 (λ p q. (alike p.0 q.0, refl))

pub octets_sign_and_size : Determined octets.sign_and_size.ended (λ _ _. octets.sign_and_size.clauses)
octets_sign_and_size _ 𝓤 𝓛 _ _ _ _ _ _ _ _ _ _ = one 𝓤 (λ p q. (alike p q, refl))

-- Of the octets of a section, handed back as a part of the file, it is the octets that are seen.
pub section_octet : Determined section.octet.ended (λ _ _. section.octet.clauses)
section_octet _ 𝓤 𝓛 _ _ _ _ _ _ _ _ _ _ = one 𝓤 (λ p q. (alike p.0 q.0, refl))

pub section_held : Determined section.held.ended (λ _ _. section.held.clauses)
section_held _ 𝓤 𝓛 _ _ _ _ _ _ _ _ _ _ = one 𝓤 (λ p q. (alike p.0 q.0, refl))

pub section_held_signed : Determined section.held_signed.ended (λ _ _. section.held_signed.clauses)
section_held_signed _ 𝓤 𝓛 _ _ _ _ _ _ _ _ _ _ = one 𝓤 (λ p q. (alike p q, refl))

pub section_length_of : Determined section.length_of.ended (λ _ _. section.length_of.clauses)
section_length_of _ 𝓤 𝓛 _ _ _ _ _ _ _ _ _ _ = one 𝓤 (λ p q. (alike p.0 q.0, refl))

pub section_FileSection_length : Determined section.FileSection.length.ended (λ _ _. section.FileSection.length.clauses)
section_FileSection_length _ 𝓤 𝓛 _ _ _ _ _ _ _ _ _ _ = one 𝓤 (λ p q. (alike p.0 q.0, refl))

pub section_FileSection_octet : Determined section.FileSection.octet.ended (λ _ _. section.FileSection.octet.clauses)
section_FileSection_octet _ 𝓤 𝓛 _ _ _ _ _ _ _ _ _ _ = one 𝓤 (λ p q. (alike p.0 q.0, refl))

pub section_FileSection_held : Determined section.FileSection.held.ended (λ _ _. section.FileSection.held.clauses)
section_FileSection_held _ 𝓤 𝓛 _ _ _ _ _ _ _ _ _ _ = one 𝓤 (λ p q. (alike p.0 q.0, refl))

pub section_FileSection_held_signed : Determined section.FileSection.held_signed.ended (λ _ _. section.FileSection.held_signed.clauses)
section_FileSection_held_signed _ 𝓤 𝓛 _ _ _ _ _ _ _ _ _ _ = one 𝓤 (λ p q. (alike p q, refl))

pub section_FileSection_octets : SeenDetermined section.FileSection.octets.ended _ (λ _. (λ x. x.now)) (λ _ _. section.FileSection.octets.clauses)
section_FileSection_octets _ 𝓤 𝓛 _ _ _ _ _ _ _ _ _ _ = one 𝓤 (λ p q. (alike p q, refl))

pub bits_eight : Determined bits.eight.ended (λ _ _. bits.eight.clauses)
bits_eight _ 𝓤 𝓛 _ _ _ _ _ _ _ _ _ _ = one 𝓤 (λ p q. (alike p q, refl))

pub bits_bit_or_zero : Determined bits.bit_or_zero.ended (λ _ _. bits.bit_or_zero.clauses)
bits_bit_or_zero _ 𝓤 𝓛 _ _ _ _ _ _ _ _ _ _ = one 𝓤 (λ p q. (alike p q, refl))

pub bits_bit_in : Determined bits.bit_in.ended (λ _ _. bits.bit_in.clauses)
bits_bit_in _ 𝓤 𝓛 _ _ _ _ _ _ _ _ _ _ = one 𝓤 (λ p q. (alike p q, refl))

pub bits_read_bits : Determined bits.read_bits.ended (λ _ _. bits.read_bits.clauses)
bits_read_bits _ 𝓤 𝓛 _ _ _ _ _ _ _ _ _ _ = one 𝓤 (λ p q. (alike p q, refl))

pub bits_read_wide : Determined bits.read_wide.ended (λ _ _. bits.read_wide.clauses)
bits_read_wide _ 𝓤 𝓛 _ _ _ _ _ _ _ _ _ _ = one 𝓤 (λ p q. (alike p q, refl))

-- So it is whatever number of numbers is read.
pub bits_read_several : (K : RattleType) → Determined (bits.read_several.ended K) (λ _ _. bits.read_several.clauses K)
bits_read_several K _ 𝓤 𝓛 _ _ _ _ _ _ _ _ _ _ = one 𝓤 (λ p q. (alike p q, refl))

pub bits_fours_in : Determined bits.fours_in.ended (λ _ _. bits.fours_in.clauses)
bits_fours_in _ 𝓤 𝓛 _ _ _ _ _ _ _ _ _ _ = one 𝓤 (λ p q. (alike p q, refl))

pub bits_after : Determined bits.after.ended (λ _ _. bits.after.clauses)
bits_after _ 𝓤 𝓛 _ _ _ _ _ _ _ _ _ _ = one 𝓤 (λ p q. (λ i. record { 0 = alike p q i }, refl))

pub bits_octets_of : Determined bits.octets_of.ended (λ _ _. bits.octets_of.clauses)
bits_octets_of _ 𝓤 𝓛 _ _ _ _ _ _ _ _ _ _ = one 𝓤 (λ p q. (alike p q, refl))

pub bits_octets_of_run : Determined bits.octets_of_run.ended (λ _ _. bits.octets_of_run.clauses)
bits_octets_of_run _ 𝓤 𝓛 _ _ _ _ _ _ _ _ _ _ = one 𝓤 (λ p q. (alike p q, refl))

pub bits_ones_ones_before : Determined bits_ones.ones_before.ended (λ _ _. bits_ones.ones_before.clauses)
bits_ones_ones_before _ 𝓤 𝓛 _ _ _ _ _ _ _ _ _ _ = one 𝓤 (λ p q. (alike p q, refl))

-- A reader is a record of its run and its place: it is the very run that it was made of, before a reading and behind it.
pub bits_reader_BitReader_new : Determined bits_reader.BitReader.new.ended (λ _ _. bits_reader.BitReader.new.clauses)
bits_reader_BitReader_new _ 𝓤 𝓛 _ _ _ _ _ _ _ _ _ _ = one 𝓤 (λ p q. (λ i. record { run = alike p.0 q.0 i; at = alike p.1 q.1 i }, refl))

pub bits_reader_BitReader_next : Determined bits_reader.BitReader.next.ended (λ _ _. bits_reader.BitReader.next.clauses)
bits_reader_BitReader_next _ 𝓤 𝓛 _ _ _ _ _ _ _ _ _ _ =
    three 𝓤 (λ p q. (alike p.0 q.0, λ i. (record { run = alike p.1.0 q.1.0 i; at = record { 0 = alike p.1.1 q.1.1 i } }, (tt, tt))))

pub bits_reader_BitReader_next_several : (K : RattleType) → Determined (bits_reader.BitReader.next_several.ended K) (λ _ _. bits_reader.BitReader.next_several.clauses K)
bits_reader_BitReader_next_several K _ 𝓤 𝓛 _ _ _ _ _ _ _ _ _ _ =
    three 𝓤 (λ p q. (alike p.0 q.0, λ i. (record { run = alike p.1.0 q.1.0 i; at = record { 0 = alike p.1.1 q.1.1 i } }, (tt, tt))))

pub bits_reader_BitReader_next_four : Determined bits_reader.BitReader.next_four.ended (λ _ _. bits_reader.BitReader.next_four.clauses)
bits_reader_BitReader_next_four _ 𝓤 𝓛 _ _ _ _ _ _ _ _ _ _ =
    three 𝓤 (λ p q. (alike p.0 q.0, λ i. (record { run = alike p.1.0 q.1.0 i; at = record { 0 = alike p.1.1 q.1.1 i } }, (tt, tt))))

-- Numbers and codes of refusals.
pub refusals_Why_at : Determined refusals.Why.at.ended (λ _ _. refusals.Why.at.clauses)
refusals_Why_at _ 𝓤 𝓛 _ _ _ _ _ _ _ _ _ _ = one 𝓤 (λ p q. (alike p q, refl))

pub refusals_number_of : Determined refusals.number_of.ended (λ _ _. refusals.number_of.clauses)
refusals_number_of _ 𝓤 𝓛 _ _ _ _ _ _ _ _ _ _ = one 𝓤 (λ p q. (alike p q, refl))

pub refusals_code_of : Determined refusals.code_of.ended (λ _ _. refusals.code_of.clauses)
refusals_code_of _ 𝓤 𝓛 _ _ _ _ _ _ _ _ _ _ = one 𝓤 (λ p q. (alike p q, refl))

-- Times.
pub calendar_UnitTryFromU8_try_from : Determined calendar.UnitTryFromU8.try_from.ended (λ _ _. calendar.UnitTryFromU8.try_from.clauses)
calendar_UnitTryFromU8_try_from _ 𝓤 𝓛 _ _ _ _ _ _ _ _ _ _ = one 𝓤 (λ p q. (alike p q, refl))

pub calendar_time_at : Determined calendar.time_at.ended (λ _ _. calendar.time_at.clauses)
calendar_time_at _ 𝓤 𝓛 _ _ _ _ _ _ _ _ _ _ = one 𝓤 (λ p q. (alike p q, refl))

pub calendar_plus : Determined calendar.plus.ended (λ _ _. calendar.plus.clauses)
calendar_plus _ 𝓤 𝓛 _ _ _ _ _ _ _ _ _ _ = one 𝓤 (λ p q. (alike p q, refl))

pub calendar_compare : Determined calendar.compare.ended (λ _ _. calendar.compare.clauses)
calendar_compare _ 𝓤 𝓛 _ _ _ _ _ _ _ _ _ _ = one 𝓤 (λ p q. (alike p q, refl))

pub calendar_digits : Determined calendar.digits.ended (λ _ _. calendar.digits.clauses)
calendar_digits _ 𝓤 𝓛 _ _ _ _ _ _ _ _ _ _ = one 𝓤 (λ p q. (alike p q, refl))

-- Elements of any type and text that are put into a lent run: where they end, and what the run holds afterwards.
pub text_put : (T : RattleType) (clones : Ghosts T.Denot) (d : Dict) → Determined (text.put.ended T clones d) (λ _ _. text.put.clauses T clones d)
text_put T clones d _ 𝓤 𝓛 _ _ _ _ _ _ _ _ _ _ = one 𝓤 (λ p q. (alike p.1 q.1, λ i. (alike p.0 q.0 i, (tt, (tt, tt)))))

pub text_put_decimal : Determined text.put_decimal.ended (λ _ _. text.put_decimal.clauses)
text_put_decimal _ 𝓤 𝓛 _ _ _ _ _ _ _ _ _ _ = one 𝓤 (λ p q. (alike p.1 q.1, λ i. (alike p.0 q.0 i, (tt, (tt, tt)))))

pub text_put_short : Determined text.put_short.ended (λ _ _. text.put_short.clauses)
text_put_short _ 𝓤 𝓛 _ _ _ _ _ _ _ _ _ _ = one 𝓤 (λ p q. (alike p.1 q.1, λ i. (alike p.0 q.0 i, (tt, (tt, tt)))))

pub text_digits_in : Determined text.digits_in.ended (λ _ _. text.digits_in.clauses)
text_digits_in _ 𝓤 𝓛 _ _ _ _ _ _ _ _ _ _ = one 𝓤 (λ p q. (alike p q, refl))

-- Greys.
pub greys_scale_of : Determined greys.scale_of.ended (λ _ _. greys.scale_of.clauses)
greys_scale_of _ 𝓤 𝓛 _ _ _ _ _ _ _ _ _ _ = one 𝓤 (λ p q. (alike p q, refl))

pub greys_grey_of : Determined greys.grey_of.ended (λ _ _. greys.grey_of.clauses)
greys_grey_of _ 𝓤 𝓛 _ _ _ _ _ _ _ _ _ _ = one 𝓤 (λ p q. (alike p q, refl))

-- Doubles.
pub doubles_is_finite : Determined doubles.is_finite.ended (λ _ _. doubles.is_finite.clauses)
doubles_is_finite _ 𝓤 𝓛 _ _ _ _ _ _ _ _ _ _ = one 𝓤 (λ p q. (alike p q, refl))

pub doubles_packing_of : Determined doubles.packing_of.ended (λ _ _. doubles.packing_of.clauses)
doubles_packing_of _ 𝓤 𝓛 _ _ _ _ _ _ _ _ _ _ = one 𝓤 (λ p q. (alike p q, refl))

pub doubles_rebuild : Determined doubles.rebuild.ended (λ _ _. doubles.rebuild.clauses)
doubles_rebuild _ 𝓤 𝓛 _ _ _ _ _ _ _ _ _ _ = one 𝓤 (λ p q. (alike p q, refl))

pub doubles_rebuild_one : Determined doubles.rebuild_one.ended (λ _ _. doubles.rebuild_one.clauses)
doubles_rebuild_one _ 𝓤 𝓛 _ _ _ _ _ _ _ _ _ _ = one 𝓤 (λ p q. (alike p q, refl))

-- The bounds of one group, each once: of groups that are judged sound, no place, no sum and no reference leaves the machine's numbers.
use mathlib.Core.Path.{◌≡◌, refl, ap}
use mathlib.Core.Bool.{true}
use mathlib.Core.List.{List}
use Prim.Native.Nat.{ℕ, zero, suc, ◌+◌, ◌-◌, ◌*◌, ◌^◌, ◌≤◌, ◌<◌}
use native.Mathlib.Nat.{add-mul, mul-le-mul_right}
use native.Mathlib.Numerals.{add-one}
use native.Mathlib.Omega.{arith}
use borrow.Author.Tests.{ltb-false}
use lib.Dec.{ltb}
use Rattle.octets.proofs.Cases.{split, chosen}
use Rattle.octets.specs.Places.{first_bit}
use Rattle.octets.specs.declared.Signed.{Signed}
use Rattle.section_7_layout.specs.Runs.{width_of, length_of}
use Rattle.section_7_layout.proofs.Laws.{run_fits, stored_fits}
use Rattle.section_7.specs.Packing.{values_before, bits_before, are_sound}
use Rattle.section_7.proofs.Laws.{sound_more, sound_widths, values_more, bits_more, values_mono, bits_of_values}
use Rattle.values_group.specs.declared.Latest.{Latest}
use Rattle.values_group.specs.Group.{most_x, Limits}
use Rattle.values_integers.specs.Integers.{reference_of}
use Rattle.values_integers.specs.Worked.{raised_by, lowered_by}
use Rattle.section_7.specs.declared.Groups.{Groups}
use Rattle.values_complex.specs.Complex.{skipped, start_of, group_at, Sound}

-- No more values are skipped than the group has.
pub skipped_within : (values length : ℕ) → skipped values length ≤ length
skipped_within values length =
    split (ltb length (2 - values)) (λ fewer. simp fewer (omega arith)) (λ enough. simp enough (omega (arith, ltb-false length (2 - values) enough)))

-- They take no more bits than the group.
pub skipped_bits : (values length width : ℕ) → skipped values length * width ≤ width * length
skipped_bits values length width = omega (arith, mul-le-mul_right width (skipped_within values length))

-- Zmin adds no more than its size, and takes no more away.
pub raised_within : (zmin : Signed) {limit : ℕ} → zmin.size < limit → raised_by zmin < limit
raised_within zmin {limit} h = chosen (λ (n : ℕ). n < limit) zmin.negative 0 zmin.size (omega arith) h

pub lowered_within : (zmin : Signed) {limit : ℕ} → zmin.size < limit → lowered_by zmin < limit
lowered_within zmin {limit} h = chosen (λ (n : ℕ). n < limit) zmin.negative zmin.size 0 h (omega arith)

-- The next group starts behind the values and the bits of this one.
pub start_more : (run : List ℕ) (g : Groups) (i : ℕ) →
    start_of run g (i + 1)
    ≡ record {
      values = (start_of run g i).values + length_of run g.layout g.grouping i;
      bit = record { 0 = (start_of run g i).bit.0 + width_of run g.layout g.grouping i * length_of run g.layout g.grouping i };
    }
start_more run g i =
    let place : (start_of run g (i + 1)).bit.0 ≡ (start_of run g i).bit.0 + width_of run g.layout g.grouping i * length_of run g.layout g.grouping i =
    omega (arith, bits_more run g.layout g.grouping i) in
    rw (values_more run g.layout g.grouping i, place)

module _ (run : List ℕ) (g : Groups) (sound : Sound run g) where
  -- The octet on which the packed values start is so low that its first bit's place is small too.
  pub packed_low : g.layout.packed.0 < 2 ^ 36
  packed_low =
      let references : g.grouping.groups * g.bits < 2 ^ 37 = run_fits sound.groups_fit sound.limited.of_numbers in
      let widths : g.grouping.groups * g.grouping.widths.bits < 2 ^ 37 = run_fits sound.groups_fit sound.limited.of_width_bits in
      let lengths : g.grouping.groups * g.grouping.lengths.bits < 2 ^ 37 = run_fits sound.groups_fit sound.limited.of_length_bits in
      rw sound.placed (omega (arith, sound.limited.of_extra))

  -- The first so many of the groups are sound too.
  pub sound_before : (i : ℕ) → i ≤ g.grouping.groups → are_sound run g.layout g.grouping i ≡ true
  unfolding are_sound
  sound_before zero h = refl
  sound_before (suc i) h =
      let here = sound_widths run g.layout g.grouping g.grouping.groups {i = i} sound.sound (omega arith) in
      rw (add-one i) at (sound_more run g.layout g.grouping i (sound_before i (omega arith)) here.0 here.1)

  module _ {i : ℕ} (within : i < g.grouping.groups) where
    -- A group has a width of at most 31.
    pub width_fits : width_of run g.layout g.grouping i ≤ 31
    width_fits = (sound_widths run g.layout g.grouping g.grouping.groups sound.sound within).0

    -- Its values and those before it are no more than a field may have.
    pub values_fit : values_before run g.layout g.grouping i + length_of run g.layout g.grouping i ≤ 16777216
    values_fit =
        omega
        (arith, sound.few_values, values_more run g.layout g.grouping i, values_mono run g.layout g.grouping {i = i + 1} g.grouping.groups (omega arith))

    -- Their bits are at most 31 for each of these.
    pub bits_fit : bits_before run g.layout g.grouping i + width_of run g.layout g.grouping i * length_of run g.layout g.grouping i ≤ 31 * 16777216
    bits_fit =
        let group : width_of run g.layout g.grouping i * length_of run g.layout g.grouping i ≤ 31 * length_of run g.layout g.grouping i =
        mul-le-mul_right (length_of run g.layout g.grouping i) width_fits in
        omega (arith, values_fit, bits_of_values run g.layout g.grouping i (sound_before i (omega arith)))

    -- The reference of a group is below 2^31.
    pub reference_fits : reference_of run g.layout g.bits i < 2 ^ 31
    reference_fits = stored_fits run _ sound.limited.of_numbers

    -- The group ends below bit 2^40 of its section.
    pub end_low : first_bit g.layout.packed.0 + (bits_before run g.layout g.grouping i + width_of run g.layout g.grouping i * length_of run g.layout g.grouping i) < 2 ^ 40
    end_low = omega (arith, packed_low, bits_fit)

-- A group that is read from a section that is judged sound is within the limits of the recurrence.
pub group_limits : (run : List ℕ) (g : Groups) (i : ℕ) → Sound run g → i < g.grouping.groups → {latest : Latest} → latest.x ≤ most_x → latest.before ≤ most_x → Limits (group_at run g i) latest
group_limits run g i sound within h k =
    let length : ℕ = length_of run g.layout g.grouping i in
    let all : skipped (values_before run g.layout g.grouping i) length + (group_at run g i).count ≡ length = omega (arith, skipped_within (values_before run g.layout g.grouping i) length) in
    record {
      of_end =
          omega (
            arith,
            end_low run g sound within,
            add-mul (skipped (values_before run g.layout g.grouping i) (length_of run g.layout g.grouping i)) (group_at run g i).count (width_of run g.layout g.grouping i),
            ap (λ (n : ℕ). n * width_of run g.layout g.grouping i) all,
          );
      of_width = width_fits run g sound within;
      of_base = omega (arith, reference_fits run g sound within, raised_within g.differencing.zmin sound.zmin_fits);
      of_lowered = omega (arith, lowered_within g.differencing.zmin sound.zmin_fits);
      of_count = omega (arith, values_fit run g sound within);
      of_last = h;
      of_before = k;
    }

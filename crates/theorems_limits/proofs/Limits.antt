-- The limits lie where the table says: each row is computed from the definitions.
use mathlib.Core.Path.{refl}
use lib.Ieee.{of_bits}
use Rattle.octets.specs.Numbers.{number_at}
use Rattle.bits.specs.Bits.{bit_at, bits_at}
use Rattle.bits_ones.specs.Ones.{ones_before}
use Rattle.calendar.specs.Calendar.{is_leap, month_length, tomorrow, days_after}
use Rattle.section_1.specs.Identification.{identification_at}
use Rattle.section_3.specs.Section3.{grid_at}
use Rattle.section_4.specs.Product.{product_definition_at}
use Rattle.section_5.specs.Representation.{representation_at}
use Rattle.section_6.specs.Presence.{present_before, presence_at}
use Rattle.section_7.specs.Packing.{values_before, bits_before, are_sound, data_at}
use Rattle.theorems_limits.specs.Samples.{in_octets}
use Rattle.theorems_limits.specs.Limits.{SectionLimits}

pub section_limits : SectionLimits
unfolding in_octets number_at bit_at bits_at is_leap month_length tomorrow days_after identification_at grid_at product_definition_at of_bits representation_at ones_before present_before presence_at values_before bits_before are_sound data_at
section_limits =
    record {
      length1 = refl;
      centre = refl;
      octet12 = refl;
      status = refl;
      read1 = refl;
      years = refl;
      months = refl;
      days = refl;
      hours = refl;
      minutes = refl;
      seconds = refl;
      thirty_first = refl;
      thirtieth = refl;
      february29 = refl;
      february28 = refl;
      next_minute = refl;
      next_hour = refl;
      next_day = refl;
      next_month = refl;
      next_year = refl;
      before_the_hour = refl;
      before_midnight = refl;
      last_year = refl;
      digits = refl;
      characters = refl;
      characters_of1999 = refl;
      length3 = refl;
      grid6 = refl;
      grid11 = refl;
      grid12 = refl;
      template3 = refl;
      earths = refl;
      grid16 = refl;
      radii = refl;
      read_earth6 = refl;
      read_sphere = refl;
      columns = refl;
      rows = refl;
      most_points = (refl, refl);
      points = refl;
      grid31 = refl;
      grid35 = refl;
      grid39 = refl;
      grid43 = refl;
      grid55 = refl;
      grid72 = refl;
      first_north = refl;
      last_south = refl;
      southwards = refl;
      first_east = refl;
      last_east = refl;
      spanned_east = refl;
      spanned_south = refl;
      stepped_east = refl;
      stepped_south = refl;
      wrapped = refl;
      crossing = refl;
      past_the_turn = refl;
      from_the_pole = refl;
      to_the_pole = refl;
      lambert_length = refl;
      lambert6 = refl;
      lambert11 = refl;
      lambert12 = refl;
      lambert_template = refl;
      lambert_earths = refl;
      lambert16 = refl;
      lambert_radii = refl;
      lambert_columns = refl;
      lambert_rows = refl;
      lambert_most = (refl, refl);
      lambert_points = refl;
      lambert31 = refl;
      lambert35 = refl;
      lambert47 = refl;
      lambert64 = refl;
      lambert65 = refl;
      first_on_sheet = refl;
      lambert43 = refl;
      stated_latitudes = refl;
      upright_meridians = refl;
      lengths_across = refl;
      lengths_down = refl;
      cutting1 = refl;
      cutting2 = refl;
      lambert74 = refl;
      read_lambert = refl;
      read_lambert_sphere = refl;
      on_sheet = refl;
      templates = refl;
      length4 = refl;
      length8 = refl;
      template0 = refl;
      template8 = refl;
      product6 = refl;
      units = refl;
      minute_hour_day = refl;
      unit_numbers = refl;
      kind_numbers = refl;
      forecasts = refl;
      surfaces = refl;
      product29 = refl;
      factors = refl;
      scaled_levels = refl;
      no_levels = refl;
      product42 = refl;
      kinds = refl;
      ends = refl;
      lengths4 = refl;
      product49 = refl;
      read_instant = refl;
      read_levelless = refl;
      read_sum = refl;
      read_mean = refl;
      forecast_octets = λ from. refl;
      length_octets = λ from. refl;
      length50 = refl;
      length53 = refl;
      template50 = refl;
      template53 = refl;
      reference_values = refl;
      binary_scales = refl;
      decimal_scales = refl;
      bits = refl;
      octet21 = refl;
      read_simple = refl;
      read_complex = refl;
      template_numbers = (refl, refl);
      octet22 = refl;
      octet23 = refl;
      octet36 = refl;
      octet37 = refl;
      octet47 = refl;
      octet48 = refl;
      octet49 = refl;
      least_values = refl;
      group_counts = refl;
      bitmap_lengths = refl;
      length6 = refl;
      indicators = refl;
      present = refl;
      spare_bits = refl;
      length_without = refl;
      indicators254 = refl;
      present254 = refl;
      other_length = refl;
      no_bitmap = refl;
      present255 = refl;
      read_own = refl;
      present_own = refl;
      present_all = refl;
      present_before_all = refl;
      indicator_numbers = (refl, refl, refl);
      length70 = refl;
      full_octets = refl;
      no_bits = refl;
      read7 = refl;
      group_lengths = refl;
      group_widths = refl;
      length73 = refl;
      values = refl;
      most_width = (refl, refl);
      least_length = (refl, refl);
      least_last_length = (refl, refl);
    }

-- RULES, "Examples on either side": every limit of "Sections in force", on either side, as one table. Each row cites the definition that the code is
-- proved to meet. `octets1 20 20 takes (0 ∷ 1 ∷ []) refuses (2 ∷ [])` says that the sample of section 1 is taken with 0 or 1 in its octet 20, and not with
-- 2. Some numbers that are refused differ from a taken one in one octet alone, so that each octet is seen to count. What is read of a sample is said whole,
-- so that an octet that is read in the wrong place shows. `make limits` changes each number of the definitions by one, and sees a row break.
use Rattle.std.specs.Prelude.{ℕ, true, false, ◌≡◌, List, [], ◌∷◌, map, Option, Some, None, Ok, Err}
use Rattle.octets.specs.Places.{at}
use Rattle.calendar.specs.declared.Time.{Time}
use Rattle.calendar.specs.declared.Unit.TheVariants as Unit
use Rattle.calendar.specs.Calendar.{unit_of, plus, fourteen_digits, digits_of}
use Rattle.section_1.specs.Identification.{identification_at}
use Rattle.section_3_geometry.specs.declared.LambertGrid.{LambertGrid}
use Rattle.section_3_geometry.specs.declared.Grid.{Grid}
use Rattle.section_3_geometry.specs.Geometry.{south_of, template_of}
use Rattle.section_3_positions.specs.Positions.{longitude_at, latitude_at}
use Rattle.section_3_lambert.specs.declared.SheetPlace.{SheetPlace}
use Rattle.section_3_lambert.specs.Sheet.{sheet_of}
use Rattle.section_3.specs.Section3.{grid_at}
use Rattle.section_4.specs.declared.Level.{Level}
use Rattle.section_4.specs.declared.Kind.TheVariants as Kind
use Rattle.section_4.specs.declared.Product as Declared
use Rattle.section_4.specs.declared.Product.TheVariants as Product
use Rattle.section_4.specs.Product.{is_product, later, kind_of, ending, interval_of, defined_at, product_definition_at}
use Rattle.section_5_groups.specs.declared.Grouping.{Grouping}
use Rattle.section_5.specs.declared.Template.{Template}
use Rattle.section_5.specs.Representation.{representation_at, template_number}
use Rattle.section_6.specs.declared.Presence.TheVariants as Presence
use Rattle.section_6.specs.Presence.{bitmap_length, presence_at, indicator_of, present_at, present_before}
use Rattle.section_7_layout.specs.declared.Layout.{Layout}
use Rattle.section_7_layout.specs.declared.Differencing.{Differencing}
use Rattle.section_7_layout.specs.Runs.{width_of, length_of}
use Rattle.section_7.specs.declared.Data.{Data}
use Rattle.section_7.specs.Packing.{data_at}
use Rattle.theorems_limits.specs.Samples.{holding, start, in_file, sample1, sample3, sphere3, lambert3, lambert_sphere3, instant4, interval4, simple5, complex5, bitmap6, complex7}
use Rattle.theorems_limits.specs.Judged.{◌takes◌refuses◌, clock, above, below, minus2, minus4, octets1, dated, octets3, octets_sphere, octets_lambert, octets_lambert_sphere, sheeted, heaped, latitudes, longitudes, from_east, from_north, reference, octets4, octets_interval, octets_levelless, in_last_hour, octets_simple, octets_complex, grouped5, octets_bitmap, octets_unmapped, the_bitmap, values_by, grouping7, taken7}
use Rattle.section_4.specs.declared.ProductDefinition.{ProductDefinition}
use Rattle.section_5.specs.declared.Representation.{Representation}

-- Section 3's sample as it is read: the grid, on an earth of code 6, and on a sphere with a radius of its own.
abbrev sample_grid : ℕ → ℕ → Grid
sample_grid earth radius =
    Grid.Degrees (
    record {
      frame = record { earth = earth; radius = radius; ni = 3; nj = 2 };
      first = record { latitude = above 36000001; longitude = 135000002 };
      last = record { latitude = above 18999998; longitude = 175000010 };
      di = 20000004;
      dj = 17000003;
    })

abbrev sample_lambert : ℕ → ℕ → LambertGrid
sample_lambert earth radius =
    record {
      frame = record { earth = earth; radius = radius; ni = 3; nj = 2 };
      first = record { latitude = above 44137789; longitude = 102008758 };
      stated = above 30000002;
      upright = 140000005;
      dx = 16909060;
      dy = 84281096;
      cut1 = above 60000003;
      cut2 = below 29999996;
    }

-- A place on the sheet, so far to the right and so far down.
abbrev right_and_down : ℕ → ℕ → SheetPlace
right_and_down right down = record { right = right; down = down }

-- Section 4's sample as it is read.
abbrev sample_product : Time → Option Level → Declared.Product → Option ProductDefinition
sample_product valid level product =
    Some (record { category = 0x61; parameter = 0x62; process = 0x63; surface = 0x69; level = level; product = product; valid = valid })

abbrev three_hours_ahead : Time
three_hours_ahead = clock 2017 5 15 15 30 45

abbrev five_hours_ahead : Time
five_hours_ahead = clock 2017 5 15 17 30 45

abbrev sample_level : Option Level
sample_level = Some (record { factor = below 2; scaled = 0x0102_0304 })

-- The same with a number in which each octet counts, for the forecast, and for the length of the interval.
abbrev four_octet_forecast : List ℕ
four_octet_forecast = in_file (holding 19 22 0x0102_0304 instant4)

abbrev four_octet_length : List ℕ
four_octet_length = in_file (holding 50 53 0x0102_0304 interval4)

-- Section 5's sample as it is read, by either template.
abbrev sample_representation : Template → Option Representation
sample_representation template =
    Some (record { n = 0x0a0b_0c0d; r = 0x4142_4344; e = below 17; d = below 7; bits = 12; template = template })

abbrev sample_grouping : Grouping
sample_grouping =
    record {
      groups = 0x0102_0304;
      widths = record { reference = 5; bits = 6 };
      lengths = record { reference = 0x2122_2324; increment = 0x25; last = 0x2627_2829; bits = 7 };
      extra = 3;
    }

-- Section 7's sample: groups of 3, 7 and 5 values, of 2, 3 and 1 bits each.
abbrev sample_groups : Grouping
sample_groups = grouping7 1 1 2 5

abbrev sample_layout : Layout
sample_layout = record { references = record { 0 = 12 }; widths = record { 0 = 15 }; lengths = record { 0 = 16 }; packed = record { 0 = 18 } }

abbrev sample_differencing : Differencing
sample_differencing = record { first = 258; second = 772; zmin = below 5 }

abbrev sample_data : Option Data
sample_data = Some (Data.Complex (record { layout = sample_layout; grouping = sample_groups; bits = 7; differencing = sample_differencing }))

pub record SectionLimits : Type 0 where
  -- Section 1: length, centre, meaning of the time, status; and what is read.
  pub length1 : octets1 1 4 takes (21 ∷ []) refuses (20 ∷ 22 ∷ [])
  pub centre : octets1 6 7 takes (34 ∷ []) refuses (33 ∷ 35 ∷ 290 ∷ [])
  pub octet12 : octets1 12 12 takes (1 ∷ []) refuses (0 ∷ 2 ∷ [])
  pub status : octets1 20 20 takes (0 ∷ 1 ∷ []) refuses (2 ∷ [])
  pub read1 : identification_at (in_file sample1) start ≡ Some (record { status = 1; reference = reference })
  -- Its time.
  pub years : octets1 13 14 takes (1900 ∷ 2399 ∷ []) refuses (1899 ∷ 2400 ∷ [])
  pub months : octets1 15 15 takes (1 ∷ 12 ∷ []) refuses (0 ∷ 13 ∷ [])
  pub days : octets1 16 16 takes (1 ∷ 31 ∷ []) refuses (0 ∷ 32 ∷ [])
  pub hours : octets1 17 17 takes (0 ∷ 23 ∷ []) refuses (24 ∷ [])
  pub minutes : octets1 18 18 takes (0 ∷ 59 ∷ []) refuses (60 ∷ [])
  pub seconds : octets1 19 19 takes (0 ∷ 59 ∷ []) refuses (60 ∷ [])
  pub thirty_first : (λ month. dated 2017 month 31) takes (1 ∷ 3 ∷ 5 ∷ 7 ∷ 8 ∷ 10 ∷ 12 ∷ []) refuses (2 ∷ 4 ∷ 6 ∷ 9 ∷ 11 ∷ [])
  pub thirtieth : (λ month. dated 2016 month 30) takes (4 ∷ 6 ∷ 9 ∷ 11 ∷ []) refuses (2 ∷ [])
  pub february29 : (λ year. dated year 2 29) takes (2000 ∷ 2016 ∷ []) refuses (1900 ∷ 2017 ∷ 2100 ∷ [])
  pub february28 : (λ year. dated year 2 28) takes (1900 ∷ 2000 ∷ 2016 ∷ 2017 ∷ []) refuses []
  -- A time after another, as section 4 asks for it; and its fourteen digits.
  pub next_minute : plus (clock 2017 5 15 23 59 0) 1 Unit.Minute ≡ Some (clock 2017 5 16 0 0 0)
  pub next_hour : plus (clock 2017 5 15 0 0 0) 1 Unit.Hour ≡ Some (clock 2017 5 15 1 0 0)
  pub next_day : plus (clock 2017 5 15 23 59 59) 1 Unit.Day ≡ Some (clock 2017 5 16 23 59 59)
  pub next_month : plus (clock 2017 11 30 12 30 45) 1 Unit.Day ≡ Some (clock 2017 12 1 12 30 45)
  pub next_year : plus (clock 2016 12 31 12 30 45) 1 Unit.Day ≡ Some (clock 2017 1 1 12 30 45)
  pub before_the_hour : plus (clock 2017 5 15 0 58 59) 1 Unit.Minute ≡ Some (clock 2017 5 15 0 59 59)
  pub before_midnight : plus (clock 2017 5 15 23 58 59) 1 Unit.Minute ≡ Some (clock 2017 5 15 23 59 59)
  pub last_year : in_last_hour takes (29 ∷ []) refuses (30 ∷ [])
  pub digits : fourteen_digits (clock 2017 5 15 13 46 29) ≡ 20170515134629
  pub characters : digits_of (clock 2017 5 15 13 46 29) ≡ 50 ∷ 48 ∷ 49 ∷ 55 ∷ 48 ∷ 53 ∷ 49 ∷ 53 ∷ 49 ∷ 51 ∷ 52 ∷ 54 ∷ 50 ∷ 57 ∷ []
  pub characters_of1999 : digits_of (clock 1999 12 30 8 0 59) ≡ 49 ∷ 57 ∷ 57 ∷ 57 ∷ 49 ∷ 50 ∷ 51 ∷ 48 ∷ 48 ∷ 56 ∷ 48 ∷ 48 ∷ 53 ∷ 57 ∷ []
  -- Section 3: length, octets 6, 11 and 12 and the template.
  pub length3 : octets3 1 4 takes (72 ∷ []) refuses (71 ∷ 73 ∷ 81 ∷ [])
  pub grid6 : octets3 6 6 takes (0 ∷ []) refuses (1 ∷ [])
  pub grid11 : octets3 11 11 takes (0 ∷ []) refuses (1 ∷ [])
  pub grid12 : octets3 12 12 takes (0 ∷ []) refuses (1 ∷ [])
  pub template3 : octets3 13 14 takes (0 ∷ []) refuses (1 ∷ 30 ∷ 256 ∷ [])
  -- The earth, and what is read.
  pub earths : octets_sphere 15 15 takes (1 ∷ 6 ∷ []) refuses (0 ∷ 2 ∷ 5 ∷ 7 ∷ [])
  pub grid16 : octets_sphere 16 16 takes (0 ∷ []) refuses (1 ∷ [])
  pub radii : octets_sphere 17 20 takes (1 ∷ 0x0100_0000 ∷ 0xffff_fffe ∷ []) refuses (0 ∷ 0xffff_ffff ∷ [])
  pub read_earth6 : grid_at (in_file sample3) start ≡ Some (sample_grid 6 6371229)
  pub read_sphere : grid_at (in_file (holding 17 20 0x0102_0304 sphere3)) start ≡ Some (sample_grid 1 0x0102_0304)
  -- The counts: Ni, Nj, their product, and what octets 7-10 tell of it.
  pub columns : (λ ni. heaped ni 1 ni) takes (1 ∷ 65535 ∷ []) refuses (0 ∷ 65536 ∷ [])
  pub rows : (λ nj. heaped 1 nj nj) takes (1 ∷ 65535 ∷ []) refuses (0 ∷ 65536 ∷ [])
  pub most_points : (heaped 4096 4096 16777216 ≡ true) × (heaped 24929 673 16777217 ≡ false)
  pub points : octets3 7 10 takes (6 ∷ []) refuses (5 ∷ 7 ∷ 16777222 ∷ [])
  pub grid31 : octets3 31 34 takes (3 ∷ []) refuses (2 ∷ 4 ∷ 16777219 ∷ [])
  pub grid35 : octets3 35 38 takes (2 ∷ []) refuses (1 ∷ 3 ∷ 16777218 ∷ [])
  -- The unit of angles, and how the points are scanned.
  pub grid39 : octets3 39 42 takes (0 ∷ []) refuses (1 ∷ 0x0100_0000 ∷ [])
  pub grid43 : octets3 43 46 takes (0xffff_ffff ∷ []) refuses (0xffff_fffe ∷ 0x7fff_ffff ∷ [])
  pub grid55 : octets3 55 55 takes (0x30 ∷ []) refuses (0x2f ∷ 0x31 ∷ [])
  pub grid72 : octets3 72 72 takes (0 ∷ []) refuses (1 ∷ [])
  -- The corners.
  pub first_north : (λ first. latitudes first 90000000) takes (90000000 ∷ []) refuses (90000001 ∷ [])
  pub last_south : latitudes (minus4 90000000) takes (minus4 90000000 ∷ []) refuses (minus4 90000001 ∷ [])
  pub southwards : (λ first. latitudes first 5) takes (5 ∷ 6 ∷ []) refuses (4 ∷ minus4 5 ∷ [])
  pub first_east : (λ first. longitudes first 0) takes (0 ∷ 359999999 ∷ []) refuses (360000000 ∷ [])
  pub last_east : longitudes 359999999 takes (0 ∷ 359999999 ∷ []) refuses (360000000 ∷ [])
  -- The spans: Ni-1 is 2 and Nj-1 is 1, and by so much they may differ from the steps; across 360 degrees, and across the equator.
  pub spanned_east : octets3 60 63 takes (175000008 ∷ 175000012 ∷ []) refuses (175000007 ∷ 175000013 ∷ [])
  pub spanned_south : octets3 56 59 takes (18999997 ∷ 18999999 ∷ []) refuses (18999996 ∷ 19000000 ∷ [])
  pub stepped_east : octets3 64 67 takes (20000003 ∷ 20000005 ∷ []) refuses (20000002 ∷ 20000006 ∷ [])
  pub stepped_south : octets3 68 71 takes (17000002 ∷ 17000004 ∷ []) refuses (17000001 ∷ 17000005 ∷ [])
  pub wrapped : from_east 340000000 takes (20000006 ∷ 20000010 ∷ []) refuses (20000005 ∷ 20000011 ∷ [])
  pub crossing : from_north 8500001 takes (minus4 8500001 ∷ minus4 8500003 ∷ []) refuses (minus4 8500000 ∷ minus4 8500004 ∷ [])
  -- Where points lie: past 360 degrees; and how far south of the north pole a latitude lies, down to the south pole, and back.
  pub past_the_turn : map longitude_at (0 ∷ 359999999 ∷ 360000000 ∷ 719999998 ∷ []) ≡ 0 ∷ 359999999 ∷ 0 ∷ 359999998 ∷ []
  pub from_the_pole : map south_of (above 90000000 ∷ above 1 ∷ above 0 ∷ below 1 ∷ below 90000000 ∷ []) ≡ 0 ∷ 89999999 ∷ 90000000 ∷ 90000001 ∷ 180000000 ∷ []
  pub to_the_pole : map latitude_at (0 ∷ 89999999 ∷ 90000000 ∷ 90000001 ∷ 180000000 ∷ []) ≡ above 90000000 ∷ above 1 ∷ above 0 ∷ below 1 ∷ below 90000000 ∷ []
  -- A Lambert grid: length, octets 6, 11 and 12 and the template.
  pub lambert_length : octets_lambert 1 4 takes (81 ∷ []) refuses (72 ∷ 80 ∷ 82 ∷ [])
  pub lambert6 : octets_lambert 6 6 takes (0 ∷ []) refuses (1 ∷ [])
  pub lambert11 : octets_lambert 11 11 takes (0 ∷ []) refuses (1 ∷ [])
  pub lambert12 : octets_lambert 12 12 takes (0 ∷ []) refuses (1 ∷ [])
  pub lambert_template : octets_lambert 13 14 takes (30 ∷ []) refuses (0 ∷ 29 ∷ 31 ∷ 286 ∷ [])
  -- The earth and the counts, as for a grid in degrees.
  pub lambert_earths : octets_lambert_sphere 15 15 takes (1 ∷ 6 ∷ []) refuses (0 ∷ 2 ∷ 5 ∷ 7 ∷ [])
  pub lambert16 : octets_lambert_sphere 16 16 takes (0 ∷ []) refuses (1 ∷ [])
  pub lambert_radii : octets_lambert_sphere 17 20 takes (1 ∷ 0xffff_fffe ∷ []) refuses (0 ∷ 0xffff_ffff ∷ [])
  pub lambert_columns : (λ ni. sheeted ni 1 ni) takes (1 ∷ 65535 ∷ []) refuses (0 ∷ 65536 ∷ [])
  pub lambert_rows : (λ nj. sheeted 1 nj nj) takes (1 ∷ 65535 ∷ []) refuses (0 ∷ 65536 ∷ [])
  pub lambert_most : (sheeted 4096 4096 16777216 ≡ true) × (sheeted 24929 673 16777217 ≡ false)
  pub lambert_points : octets_lambert 7 10 takes (6 ∷ []) refuses (5 ∷ 7 ∷ 16777222 ∷ [])
  pub lambert31 : octets_lambert 31 34 takes (3 ∷ []) refuses (2 ∷ 4 ∷ 16777219 ∷ [])
  pub lambert35 : octets_lambert 35 38 takes (2 ∷ []) refuses (1 ∷ 3 ∷ 16777218 ∷ [])
  -- Winds along the grid, the north pole, and the order of the points.
  pub lambert47 : octets_lambert 47 47 takes (0x08 ∷ []) refuses (0 ∷ 0x07 ∷ 0x09 ∷ 0x30 ∷ 0x38 ∷ [])
  pub lambert64 : octets_lambert 64 64 takes (0 ∷ []) refuses (1 ∷ 0x80 ∷ [])
  pub lambert65 : octets_lambert 65 65 takes (0 ∷ []) refuses (1 ∷ 0x40 ∷ 0x80 ∷ [])
  -- Its latitudes and longitudes, and its lengths.
  pub first_on_sheet : octets_lambert 39 42 takes (0 ∷ 90000000 ∷ minus4 90000000 ∷ []) refuses (90000001 ∷ minus4 90000001 ∷ [])
  pub lambert43 : octets_lambert 43 46 takes (0 ∷ 359999999 ∷ []) refuses (360000000 ∷ [])
  pub stated_latitudes : octets_lambert 48 51 takes (0 ∷ 90000000 ∷ minus4 90000000 ∷ []) refuses (90000001 ∷ minus4 90000001 ∷ [])
  pub upright_meridians : octets_lambert 52 55 takes (0 ∷ 359999999 ∷ []) refuses (360000000 ∷ [])
  pub lengths_across : octets_lambert 56 59 takes (1 ∷ 2147483647 ∷ []) refuses (0 ∷ 2147483648 ∷ [])
  pub lengths_down : octets_lambert 60 63 takes (1 ∷ 2147483647 ∷ []) refuses (0 ∷ 2147483648 ∷ [])
  pub cutting1 : octets_lambert 66 69 takes (0 ∷ 90000000 ∷ minus4 90000000 ∷ []) refuses (90000001 ∷ minus4 90000001 ∷ [])
  pub cutting2 : octets_lambert 70 73 takes (0 ∷ 90000000 ∷ minus4 90000000 ∷ []) refuses (90000001 ∷ minus4 90000001 ∷ [])
  pub lambert74 : octets_lambert 74 81 takes (0 ∷ 0xffff_ffff_ffff_ffff ∷ []) refuses []
  -- What is read of it, and where its points lie on the sheet.
  pub read_lambert : grid_at (in_file lambert3) start ≡ Some (Grid.Lambert (sample_lambert 6 6371229))
  pub read_lambert_sphere : grid_at (in_file (holding 17 20 0x0102_0304 lambert_sphere3)) start ≡ Some (Grid.Lambert (sample_lambert 1 0x0102_0304))
  pub on_sheet :
      map (sheet_of (sample_lambert 6 6371229)) (0 ∷ 2 ∷ 3 ∷ 5 ∷ [])
      ≡ right_and_down 0 0 ∷ right_and_down 33818120 0 ∷ right_and_down 0 84281096 ∷ right_and_down 33818120 84281096 ∷ []
  pub templates : map template_of (sample_grid 6 6371229 ∷ Grid.Lambert (sample_lambert 6 6371229) ∷ []) ≡ 0 ∷ 30 ∷ []
  -- Section 4: length and template, octets 6-7, the unit, the forecast, the first surface and the second.
  pub length4 : octets4 1 4 takes (34 ∷ []) refuses (33 ∷ 35 ∷ 58 ∷ [])
  pub length8 : octets_interval 1 4 takes (58 ∷ []) refuses (34 ∷ 57 ∷ 59 ∷ [])
  pub template0 : octets4 8 9 takes (0 ∷ []) refuses (1 ∷ 8 ∷ 256 ∷ [])
  pub template8 : octets_interval 8 9 takes (8 ∷ []) refuses (0 ∷ 7 ∷ 9 ∷ 264 ∷ [])
  pub product6 : octets4 6 7 takes (0 ∷ []) refuses (1 ∷ 256 ∷ [])
  pub units : octets4 18 18 takes (0 ∷ 1 ∷ 2 ∷ []) refuses (3 ∷ 255 ∷ [])
  pub minute_hour_day :
      map (later reference 3) (0 ∷ 1 ∷ 2 ∷ [])
      ≡ Some (clock 2017 5 15 12 33 45) ∷ Some (clock 2017 5 15 15 30 45) ∷ Some (clock 2017 5 18 12 30 45) ∷ []
  pub unit_numbers : map unit_of (0 ∷ 1 ∷ 2 ∷ 3 ∷ []) ≡ Ok Unit.Minute ∷ Ok Unit.Hour ∷ Ok Unit.Day ∷ Err (record { 0 = 3 }) ∷ []
  pub kind_numbers : map kind_of (0 ∷ 1 ∷ 2 ∷ []) ≡ Ok Kind.Mean ∷ Ok Kind.Sum ∷ Err (record { 0 = 2 }) ∷ []
  pub forecasts : (λ time. is_product (in_file (holding 19 22 time instant4)) start) takes (0 ∷ 2147483647 ∷ []) refuses (2147483648 ∷ [])
  pub surfaces : octets4 23 23 takes (0 ∷ 254 ∷ []) refuses (255 ∷ [])
  pub product29 : octets4 29 34 takes (0xffff_ffff_ffff ∷ []) refuses (0xffff_ffff_fffe ∷ 0x7fff_ffff_ffff ∷ [])
  -- The level.
  pub factors : octets4 24 24 takes (0 ∷ 127 ∷ 254 ∷ []) refuses (255 ∷ [])
  pub scaled_levels : octets4 25 28 takes (0 ∷ 2147483647 ∷ []) refuses (2147483648 ∷ 0xffff_ffff ∷ [])
  pub no_levels : octets_levelless 25 28 takes (0xffff_ffff ∷ []) refuses (0 ∷ 0xffff_fffe ∷ [])
  -- The interval: one range, a mean or a sum, and the end that the length leads to.
  pub product42 : octets_interval 42 42 takes (1 ∷ []) refuses (0 ∷ 2 ∷ [])
  pub kinds : octets_interval 47 47 takes (0 ∷ 1 ∷ []) refuses (2 ∷ [])
  pub ends : octets_interval 35 41 takes (0x07e1_050f_111e_2d ∷ []) refuses (0x07e1_050f_111e_2c ∷ 0x07e1_050f_111e_2e ∷ [])
  pub lengths4 : octets_interval 50 53 takes (2 ∷ []) refuses (1 ∷ 3 ∷ [])
  pub product49 : octets_interval 49 49 takes (1 ∷ []) refuses (0 ∷ 2 ∷ 3 ∷ [])
  -- What is read.
  pub read_instant : product_definition_at (in_file instant4) start reference ≡ sample_product three_hours_ahead sample_level Product.Instant
  pub read_levelless :
      product_definition_at (in_file (holding 24 28 0xff_ffff_ffff instant4)) start reference
      ≡ sample_product three_hours_ahead None Product.Instant
  pub read_sum :
      product_definition_at (in_file interval4) start reference
      ≡ sample_product three_hours_ahead sample_level (Product.Interval five_hours_ahead Kind.Sum)
  pub read_mean :
      product_definition_at (in_file (holding 47 47 0 interval4)) start reference
      ≡ sample_product three_hours_ahead sample_level (Product.Interval five_hours_ahead Kind.Mean)
  -- All four octets of a forecast count, and all four of a length, in the unit that stands before them, whatever the time.
  pub forecast_octets : (from : Time) → product_definition_at four_octet_forecast start from ≡ defined_at four_octet_forecast start (later from 0x0102_0304 1)
  pub length_octets :
      (from : Time)
      → interval_of four_octet_length start from Kind.Sum ≡ ending Kind.Sum (Some five_hours_ahead) (later from 0x0102_0304 1)
  -- Section 5: length and template, R, E, D, bits; and what is read.
  pub length50 : octets_simple 1 4 takes (21 ∷ []) refuses (20 ∷ 22 ∷ 49 ∷ [])
  pub length53 : octets_complex 1 4 takes (49 ∷ []) refuses (21 ∷ 48 ∷ 50 ∷ [])
  pub template50 : octets_simple 10 11 takes (0 ∷ []) refuses (1 ∷ 3 ∷ 256 ∷ [])
  pub template53 : octets_complex 10 11 takes (3 ∷ []) refuses (0 ∷ 2 ∷ 4 ∷ 259 ∷ [])
  pub reference_values : octets_simple 12 15 takes (0 ∷ 0x7f7f_ffff ∷ 0xff7f_ffff ∷ []) refuses (0x7f80_0000 ∷ 0xff80_0000 ∷ 0x7fc0_0000 ∷ [])
  pub binary_scales : octets_simple 16 17 takes (127 ∷ minus2 127 ∷ []) refuses (128 ∷ minus2 128 ∷ [])
  pub decimal_scales : octets_simple 18 19 takes (22 ∷ minus2 22 ∷ []) refuses (23 ∷ minus2 23 ∷ 263 ∷ [])
  pub bits : octets_simple 20 20 takes (0 ∷ 31 ∷ []) refuses (32 ∷ [])
  pub octet21 : octets_simple 21 21 takes (0 ∷ []) refuses (1 ∷ [])
  pub read_simple : representation_at (in_file simple5) start ≡ sample_representation Template.Simple
  pub read_complex : representation_at (in_file complex5) start ≡ sample_representation (Template.Complex sample_grouping)
  pub template_numbers : (template_number Template.Simple ≡ 0) × (template_number (Template.Complex sample_grouping) ≡ 3)
  -- Template 5.3.
  pub octet22 : octets_complex 22 22 takes (1 ∷ []) refuses (0 ∷ 2 ∷ [])
  pub octet23 : octets_complex 23 23 takes (0 ∷ []) refuses (1 ∷ [])
  pub octet36 : octets_complex 36 36 takes (0 ∷ 31 ∷ []) refuses (32 ∷ [])
  pub octet37 : octets_complex 37 37 takes (0 ∷ 31 ∷ []) refuses (32 ∷ [])
  pub octet47 : octets_complex 47 47 takes (0 ∷ 31 ∷ []) refuses (32 ∷ [])
  pub octet48 : octets_complex 48 48 takes (2 ∷ []) refuses (1 ∷ 3 ∷ [])
  pub octet49 : octets_complex 49 49 takes (1 ∷ 4 ∷ []) refuses (0 ∷ 5 ∷ [])
  pub least_values : grouped5 1 takes (2 ∷ []) refuses (0 ∷ 1 ∷ [])
  pub group_counts : (λ groups. grouped5 groups 2) takes (1 ∷ 2 ∷ []) refuses (0 ∷ 3 ∷ [])
  -- Section 6: a bitmap of its own has six octets and its bits, and as many points as there are values are present in it.
  pub bitmap_lengths : map bitmap_length (1 ∷ 8 ∷ 9 ∷ 1514461 ∷ []) ≡ 7 ∷ 7 ∷ 8 ∷ 189314 ∷ []
  pub length6 : octets_bitmap 9 4 1 4 takes (8 ∷ []) refuses (5 ∷ 6 ∷ 7 ∷ 9 ∷ [])
  pub indicators : octets_bitmap 9 4 6 6 takes (0 ∷ []) refuses (1 ∷ 253 ∷ 254 ∷ 255 ∷ [])
  pub present : (λ n. octets_bitmap 9 n 6 6 0) takes (4 ∷ []) refuses (3 ∷ 5 ∷ [])
  pub spare_bits : octets_bitmap 9 4 8 8 takes (0x80 ∷ 0xff ∷ []) refuses (0x7f ∷ [])
  -- Without one, it has six octets: the latest bitmap is used, or all points are present.
  pub length_without : octets_unmapped the_bitmap 9 4 1 4 takes (6 ∷ []) refuses (5 ∷ 7 ∷ [])
  pub indicators254 : octets_unmapped the_bitmap 9 4 6 6 takes (254 ∷ []) refuses (0 ∷ 1 ∷ 253 ∷ 255 ∷ [])
  pub present254 : (λ n. octets_unmapped the_bitmap 9 n 6 6 254) takes (4 ∷ []) refuses (3 ∷ 5 ∷ 9 ∷ [])
  pub other_length : (λ points. octets_unmapped the_bitmap points 4 6 6 254) takes (9 ∷ 10 ∷ []) refuses (8 ∷ 17 ∷ [])
  pub no_bitmap : octets_unmapped None 9 9 6 6 takes (255 ∷ []) refuses (0 ∷ 254 ∷ [])
  pub present255 : (λ n. octets_unmapped the_bitmap 9 n 6 6 255) takes (9 ∷ []) refuses (4 ∷ 8 ∷ 10 ∷ [])
  -- Which points are present.
  pub read_own : presence_at (in_file bitmap6) start None 9 4 ≡ Some (Presence.Own (at start))
  pub present_own :
      map (present_at (in_file bitmap6) (Presence.Own (at start)) 9) (0 ∷ 1 ∷ 2 ∷ 3 ∷ 4 ∷ 5 ∷ 6 ∷ 7 ∷ 8 ∷ [])
      ≡ 1 ∷ 0 ∷ 1 ∷ 0 ∷ 0 ∷ 0 ∷ 0 ∷ 1 ∷ 1 ∷ []
  pub present_all : present_at [] Presence.All 9 8 ≡ 1
  pub present_before_all : map (present_before [] Presence.All 9) (0 ∷ 9 ∷ []) ≡ 0 ∷ 9 ∷ []
  pub indicator_numbers :
      (indicator_of (Presence.Own (at start)) ≡ 0) × (indicator_of (Presence.Earlier (at start)) ≡ 254)
      × (indicator_of Presence.All ≡ 255)
  -- Section 7, simple packing: five octets and N x bits.
  pub length70 : taken7 Template.Simple 3 3 takes (7 ∷ []) refuses (6 ∷ 8 ∷ [])
  pub full_octets : taken7 Template.Simple 8 2 takes (7 ∷ []) refuses (6 ∷ 8 ∷ [])
  pub no_bits : taken7 Template.Simple 8 0 takes (5 ∷ []) refuses (4 ∷ 6 ∷ [])
  -- Complex packing: what is read, and the groups, whose lengths add up to N.
  pub read7 : data_at (in_file complex7) start (values_by (Template.Complex sample_groups) 15 7) ≡ sample_data
  pub group_lengths : map (length_of complex7 sample_layout sample_groups) (0 ∷ 1 ∷ 2 ∷ []) ≡ 3 ∷ 7 ∷ 5 ∷ []
  pub group_widths : map (width_of complex7 sample_layout sample_groups) (0 ∷ 1 ∷ 2 ∷ []) ≡ 2 ∷ 3 ∷ 1 ∷ []
  pub length73 : taken7 (Template.Complex sample_groups) 15 7 takes (21 ∷ []) refuses (20 ∷ 22 ∷ [])
  pub values : (λ n. taken7 (Template.Complex sample_groups) n 7 21) takes (15 ∷ []) refuses (14 ∷ 16 ∷ [])
  pub most_width : (taken7 (Template.Complex (grouping7 29 1 2 5)) 15 7 74 ≡ true) × (taken7 (Template.Complex (grouping7 30 1 2 5)) 15 7 76 ≡ false)
  pub least_length : (taken7 (Template.Complex (grouping7 1 0 1 5)) 9 7 19 ≡ true) × (taken7 (Template.Complex (grouping7 1 0 0 5)) 5 7 18 ≡ false)
  pub least_last_length : (taken7 (Template.Complex (grouping7 1 1 2 1)) 11 7 21 ≡ true) × (taken7 (Template.Complex (grouping7 1 1 2 0)) 10 7 21 ≡ false)

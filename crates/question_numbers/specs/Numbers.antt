-- RULES, "A description" and "What C is given": a description and a place as rows of whole numbers, in the order in which RULES names them. A case of an enum
-- is told by what the octets of the file hold for it.
use Rattle.std.specs.Prelude.{ℕ, List, [], ◌∷◌, ◌++◌, map, ℤ, pos, Option, Some, None}
use Rattle.octets.specs.Numbers.{whole}
use Rattle.calendar.specs.declared.Time.{Time}
use Rattle.tiling_sections.specs.declared.Starts.{Starts}
use Rattle.tiling_sections.specs.Walk.{section_start}
use Rattle.section_3_geometry.specs.declared.Position.{Position}
use Rattle.section_3_geometry.specs.declared.Frame.{Frame}
use Rattle.section_3_geometry.specs.declared.Grid.{Grid}
use Rattle.section_3_geometry.specs.Geometry.{points_in, frame_of}
use Rattle.section_3_lambert.specs.declared.SheetPlace.{SheetPlace}
use Rattle.section_4.specs.declared.Level.{Level}
use Rattle.section_4.specs.declared.Kind.{Kind}
use Rattle.section_4.specs.declared.Product.{Product}
use Rattle.section_4.specs.declared.ProductDefinition.{ProductDefinition}
use Rattle.section_5.specs.declared.Representation.{Representation}
use Rattle.section_5.specs.Representation.{template_number}
use Rattle.section_6.specs.Presence.{indicator_of}
use Rattle.question.specs.declared.Description.{Description}

abbrev pub time_numbers : Time → List ℤ
time_numbers t = map pos (t.date.year ∷ t.date.month ∷ t.date.day ∷ t.hour ∷ t.minute ∷ t.second ∷ [])

-- A latitude, below zero in the south, and a longitude, in millionths of a degree.
abbrev pub position_numbers : Position → List ℤ
position_numbers p = whole p.latitude ∷ pos p.longitude ∷ []

-- A place on the sheet: how far to the right and how far down, in thousandths of a metre.
abbrev pub sheet_numbers : SheetPlace → List ℤ
sheet_numbers p = map pos (p.right ∷ p.down ∷ [])

-- What both kinds of grid have. Behind Ni and Nj stands their product, the point count: it is the room that decode needs.
abbrev pub frame_numbers : Frame → List ℤ
frame_numbers f = map pos (f.earth ∷ f.radius ∷ f.ni ∷ f.nj ∷ points_in f ∷ [])

-- The first point; and of a grid in degrees the last one and the steps, where a Lambert grid has zeros.
abbrev pub degree_numbers : Grid → List ℤ
degree_numbers (Grid.Degrees g) = position_numbers g.first ++ position_numbers g.last ++ map pos (g.di ∷ g.dj ∷ [])
degree_numbers (Grid.Lambert g) = position_numbers g.first ++ map pos (0 ∷ 0 ∷ 0 ∷ 0 ∷ [])

abbrev pub grid_numbers : Grid → List ℤ
grid_numbers g = frame_numbers (frame_of g) ++ degree_numbers g

-- What a Lambert grid alone has: its template, the latitude of the stated lengths, the upright meridian, Dx and Dy, and the two cutting latitudes.
abbrev pub lambert_numbers : Grid → List ℤ
lambert_numbers (Grid.Degrees g) = []
lambert_numbers (Grid.Lambert g) = pos 30 ∷ whole g.stated ∷ pos g.upright ∷ pos g.dx ∷ pos g.dy ∷ whole g.cut1 ∷ whole g.cut2 ∷ []

-- Is there a level (1) or none (0), its factor, and the scaled level.
abbrev pub level_numbers : Option Level → List ℤ
level_numbers None = map pos (0 ∷ 0 ∷ 0 ∷ [])
level_numbers (Some level) = pos 1 ∷ whole level.factor ∷ pos level.scaled ∷ []

abbrev pub kind_number : Kind → ℕ
kind_number Kind.Mean = 0
kind_number Kind.Sum = 1

-- An instant is template 4.0; an interval is template 4.8, with its end and its kind, octet 47.
abbrev pub product_numbers : Product → List ℤ
product_numbers Product.Instant = map pos (0 ∷ 0 ∷ 0 ∷ 0 ∷ 0 ∷ 0 ∷ 0 ∷ 0 ∷ [])
product_numbers (Product.Interval end kind) = (pos 8 ∷ []) ++ time_numbers end ++ (pos (kind_number kind) ∷ [])

abbrev pub definition_numbers : ProductDefinition → List ℤ
definition_numbers d =
    map pos (d.category ∷ d.parameter ∷ d.process ∷ d.surface ∷ [])
    ++ level_numbers d.level
    ++ product_numbers d.product
    ++ time_numbers d.valid

abbrev pub representation_numbers : Representation → List ℤ
representation_numbers r = pos r.n ∷ pos r.r ∷ whole r.e ∷ whole r.d ∷ pos r.bits ∷ pos (template_number r.template) ∷ []

abbrev pub start_numbers : Starts → List ℤ
start_numbers s = map (λ section. pos (section_start s section)) (1 ∷ 3 ∷ 4 ∷ 5 ∷ 6 ∷ 7 ∷ [])

-- What sections 0, 1, 3 and 4 say of a field.
abbrev pub field_numbers : Description → List ℤ
field_numbers d =
    map pos (d.discipline ∷ d.identification.status ∷ [])
    ++ time_numbers d.identification.reference
    ++ grid_numbers d.grid
    ++ definition_numbers d.definition

-- The 53 numbers that every description has.
abbrev pub shared_numbers : Description → List ℤ
shared_numbers d =
    field_numbers d
    ++ representation_numbers d.representation
    ++ (pos (indicator_of d.presence) ∷ [])
    ++ start_numbers d.starts

-- A whole description. On a Lambert grid it has 60 numbers, and the grid's own come last.
abbrev pub numbers_of : Description → List ℤ
numbers_of d = shared_numbers d ++ lambert_numbers d.grid

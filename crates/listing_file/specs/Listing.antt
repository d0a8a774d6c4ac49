-- RULES, "Listing": the lines for a file on standard input.
use Rattle.std.specs.Prelude.{ℕ, zero, suc, ◌≡◌, cond, List, [], ◌++◌, ltb, length, take, Option, Some, None, Result, Ok, Err}
use Rattle.refusals.specs.declared.Refusal.{Refusal}
use Rattle.refusals.specs.declared.Why.TheVariants as Why
use Rattle.refusals.specs.Refusals.{refusal}
use Rattle.tiling.specs.Tiling.{check}
use Rattle.question.specs.Describe.{describe}
use Rattle.laws_rows.specs.Rows.{Puts}
use Rattle.text.specs.Text.{ascii, decimal}
use Rattle.listing_lines.specs.Lines.{refusal_text, field_text}
use Rattle.listing_file.specs.declared.Stream.{Stream}
use Rattle.listing_file.specs.declared.Printout.{Printout}
use Rattle.tiling.specs.declared.Counts.{Counts}
use Rattle.question.specs.declared.Description.{Description}

-- The most octets that the program takes.
abbrev pub most_octets : ℕ
most_octets = 65536

abbrev pub answer_text : Result Description Refusal → List ℕ
answer_text (Ok d) = field_text d
answer_text (Err r) = refusal_text r

-- One line a field, with its number in front.
unfoldable pub line_of : List ℕ → ℕ → List ℕ
line_of file k = decimal k ++ ascii " " ++ answer_text (describe file k) ++ ascii "\n"

unfoldable pub lines_of : List ℕ → ℕ → List ℕ
lines_of file zero = []
lines_of file (suc k) = lines_of file k ++ line_of file k

-- The first line tells how many fields there are.
abbrev pub count_text : ℕ → List ℕ
count_text fields = decimal fields ++ ascii " fields\n"

-- A file that is taken has the line of its count, and then those of its fields.
abbrev pub taken_text : List ℕ → ℕ → List ℕ
taken_text file fields = count_text fields ++ lines_of file fields

-- A refused file has one line.
abbrev pub refused_line : Refusal → List ℕ
refused_line r = refusal_text r ++ ascii "\n"

abbrev pub checked_text : List ℕ → Result Counts Refusal → List ℕ
checked_text file (Ok both) = taken_text file both.fields
checked_text file (Err r) = refused_line r

-- An input that is too long is refused before all else.
unfoldable pub listing_of : List ℕ → List ℕ
listing_of input = cond (ltb most_octets (length input)) (refused_line (refusal Why.InputTooLong most_octets)) (checked_text input (check input))

-- Reading has put `got` octets of the input `whole` at the start of a run: all of it, or as much as the run holds.
abbrev pub ReadFrom : List ℕ → List ℕ → ℕ → Type 0
ReadFrom whole run got = take got run ≡ take (length run) whole

-- Where reading stops it is tried once more: it answers a number at the end of the input, and none where the input cannot be read. What is printed then,
-- and to which file descriptor: 1 is standard output, and 2 is standard error.
abbrev pub unreadable_text : List ℕ
unreadable_text = ascii "listing: standard input cannot be read\n"

abbrev pub printed_text : Option ℕ → List ℕ → List ℕ
printed_text (Some _) whole = listing_of whole
printed_text None whole = unreadable_text

abbrev pub descriptor_for : Option ℕ → ℕ
descriptor_for (Some _) = 1
descriptor_for None = 2

-- The file descriptor of each stream.
abbrev pub descriptor_of : Stream → ℕ
descriptor_of Stream.Output = 1
descriptor_of Stream.Error = 2

-- What is put is what is to be printed of the whole input, whichever input it is that reading has put into the run.
pub record Prints (run : List ℕ) (got : ℕ) (again : Option ℕ) (before after : List ℕ) (p : Printout) : Type 0 where
  pub puts : (whole : List ℕ) → ReadFrom whole run got → Puts before 0 (printed_text again whole) after p.length
  pub prints_to : descriptor_of p.stream ≡ descriptor_for again

-- The laws of the listing: how long its texts are at most, and which listing an input has.
use mathlib.Core.Path.{◌≡◌, refl, sym, ap, ◌∙◌}
use mathlib.Core.List.{List, ◌++◌}
use Prim.Native.Nat.{ℕ, zero, suc, ◌+◌, ◌*◌, ◌≤◌, ◌<◌}
use native.Mathlib.Omega.{arith}
use lib.Dec.{ltb}
use lib.ListN.{length, take, drop, length-append, length-take}
use lib.Seq.{length-take-le, take_all}
use borrow.Author.Tests.{ltb-true, ltb-false, lt-ltb}
use Rattle.octets.proofs.Cases.{split}
use Rattle.std.specs.Prelude.{Option, Result, Ok, Err}
use Rattle.refusals.specs.declared.Refusal.{Refusal}
use Rattle.refusals.specs.declared.Why.TheVariants as Why
use Rattle.refusals.specs.Refusals.{refusal}
use Rattle.question.specs.declared.Description.{Description}
use Rattle.question.specs.Describe.{describe}
use Rattle.laws_rows.specs.Rows.{Puts}
use Rattle.text.specs.Text.{ascii, decimal}
use Rattle.text.proofs.Laws.{decimal_short}
use Rattle.listing_lines.proofs.Laws.{refusal_short, field_short}
use Rattle.listing_file.specs.declared.Stream.{Stream}
use Rattle.listing_file.specs.declared.Printout.{Printout}
use Rattle.listing_file.specs.Listing.{answer_text, line_of, lines_of, taken_text, refused_line, most_octets, listing_of, ReadFrom, printed_text, descriptor_of, Prints}

-- What is put at the start of a run lies inside it.
pub start_inside : (a u : List ℕ) {b : List ℕ} {r : ℕ} → Puts a 0 u b r → r ≤ length b
start_inside a u put = omega (arith, put.1, ap length put.0 ∙ length-append u (drop (0 + length u) a))

pub answer_short : (d : Result Description Refusal) → length (answer_text d) ≤ 161
answer_short (Ok d) = field_short d
answer_short (Err r) = omega (arith, refusal_short r)

-- A line, over the answer that it holds.
line : (answer : List ℕ) (k : ℕ) → length answer ≤ 161 → length (decimal k ++ ascii " " ++ answer ++ ascii "\n") ≤ 192
line answer k fits = simp length-append (omega (arith, decimal_short k))

pub line_short : (file : List ℕ) (k : ℕ) → length (line_of file k) ≤ 192
unfolding line_of
line_short file k = line (answer_text (describe file k)) k (answer_short (describe file k))

pub lines_short : (file : List ℕ) (n : ℕ) → length (lines_of file n) ≤ 192 * n
unfolding lines_of
lines_short file zero = omega arith
lines_short file (suc n) = rw (length-append (lines_of file n) (line_of file n)) (omega (arith, lines_short file n, line_short file n))

pub taken_short : (file : List ℕ) (n : ℕ) → length (taken_text file n) ≤ 28 + 192 * n
taken_short file n = simp length-append (omega (arith, decimal_short n, lines_short file n))

-- The listing of an input that is too long.
listing_too_long :
    (input : List ℕ) → most_octets < length input → listing_of input ≡ refused_line (refusal Why.InputTooLong most_octets)
unfolding listing_of
listing_too_long input long = rw (lt-ltb most_octets (length input) long)

-- So many octets of an input are enough to list it, where they are more than the most that are taken: they are all of it, or too many.
begun_listed : (whole : List ℕ) (n : ℕ) → most_octets < n → listing_of (take n whole) ≡ listing_of whole
begun_listed whole n enough = split (ltb n (length whole)) (λ more. more_listed (ltb-true _ _ more)) (λ all. ap listing_of (take_all n whole (ltb-false _ _ all)))
  where
    more_listed : n < length whole → listing_of (take n whole) ≡ listing_of whole
    more_listed more =
        let as_many = length-take-le n whole (omega arith) in
        listing_too_long (take n whole) (omega (arith, as_many)) ∙ sym (listing_too_long whole (omega arith))

pub read_listed : (whole run : List ℕ) (got : ℕ) → most_octets < length run → ReadFrom whole run got → listing_of (take got run) ≡ listing_of whole
read_listed whole run got enough read = ap listing_of read ∙ begun_listed whole (length run) enough

-- What reading has put into a run is an input by itself, so that what is printed is one text, and lies inside its run.
itself : (run : List ℕ) (got : ℕ) → ReadFrom (take got run) run got
itself run got = sym (take_all (length run) (take got run) (omega (arith, length-take got run)))

-- A stream has one descriptor, and no other stream has the same.
one_stream : (s t : Stream) → descriptor_of s ≡ descriptor_of t → s ≡ t
one_stream Stream.Output Stream.Output same = refl
one_stream Stream.Output Stream.Error same = absurd (omega arith)
one_stream Stream.Error Stream.Output same = absurd (omega arith)
one_stream Stream.Error Stream.Error same = refl

module _ {run : List ℕ} {got : ℕ} {again : Option ℕ} {a : List ℕ} where
  pub print_inside : {b : List ℕ} {p : Printout} → Prints run got again a b p → p.length ≤ length b
  print_inside told = start_inside a (printed_text again (take got run)) (told.puts (take got run) (itself run got))

  pub print_one : {b c : List ℕ} {p q : Printout} → Prints run got again a b p → Prints run got again a c q → (p ≡ q) × (b ≡ c)
  print_one {p = p} {q = q} told other =
      let first = told.puts (take got run) (itself run got) in
      let second = other.puts (take got run) (itself run got) in
      let stream = one_stream p.stream q.stream (told.prints_to ∙ sym other.prints_to) in
      let many = first.1 ∙ sym second.1 in
      (λ i. record { stream = stream i; length = many i }, first.0 ∙ sym second.0)

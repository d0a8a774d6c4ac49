-- Each turn puts behind what was taken before what it takes off the input then.
use Rattle.std.proofs.Common.{rules, ◌≡◌, ◌≤◌, ◌+◌, ◌++◌, length, take, ℕ, List, sym, ap, ◌∙◌, subst, length-take-le}
use Rattle.std.proofs.lemmas.List.{take-append-le}
use Rattle.std.proofs.Math.Seq.{take-append-add}
use Rattle.std.specs.Io.KnownBytes.{Consumes}
use Rattle.std.proofs.KnownBytes.{Consumes-trans}
use borrow.Rule.Slice.PartMut.{put_mid, post_of}
use Rattle.listing.proofs.read_full.Goals as goal

-- A run of which a part from place `at` on was written: its start is the start of before, and then the start of what was written.
start_of_written :
    (at room n : ℕ) (run part : List ℕ)
    → at ≤ length run
    → n ≤ length part
    → take (at + n) (put_mid at room run part) ≡ take at run ++ take n part
start_of_written at room n run part within fits =
    ap (λ m. take (m + n) (put_mid at room run part)) (sym (length-take-le at run within)) ∙ take-append-add (take at run) (part ++ post_of at room run) n
    ∙ ap (λ l. take at run ++ l) (take-append-le n part (post_of at room run) fits)

pub loop-got-preserved : goal.loop-got-preserved
loop-got-preserved g c =
    let got = c.loop-got.got in
    let before = c.loop-got.invariant in
    let written = start_of_written got _ c.in-Ok.more c.loop-got.run c.read.new.buf before.in_bounds c.in-Ok.ensures.bound.0 in
    record {
      in_bounds = search rules;
      taken = subst (Consumes _ _) (sym written) (Consumes-trans _ _ _ _ _ before.taken c.in-Ok.ensures.bytes.0);
    }

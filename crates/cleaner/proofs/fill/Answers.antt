-- A read puts its bytes after those that are there.
use Rattle.std.proofs.Common.{◌≡◌, ℕ, ◌+◌, ◌≤◌, List, ◌++◌, length, take, arith, length-take-le, ◌∙◌, ap, sym}
use Rattle.std.proofs.lemmas.Grind.{common_steps}
use Rattle.std.proofs.KnownBytes.{Consumes-trans}
use Rattle.std.proofs.lemmas.List.{take-append-le}
use Rattle.std.proofs.Math.Seq.{take-append-add}
use borrow.Rule.Slice.PartMut.{put_mid, post_of}
use Rattle.cleaner.proofs.fill.Goals as goal

-- the front of a list, and so many of the bytes put after it
front_and : (xs ys : List ℕ) (c k n : ℕ) → c ≤ length xs → n ≤ length ys → take (c + n) (put_mid c k xs ys) ≡ take c xs ++ take n ys
front_and xs ys c k n within fits =
    let front : c ≡ length (take c xs) = sym (length-take-le c xs within) in
    ap (λ (i : ℕ). take (i + n) (put_mid c k xs ys)) front
    ∙ take-append-add (take c xs) (ys ++ post_of c k xs) n
    ∙ ap (λ (l : List ℕ). take c xs ++ l) (take-append-le n ys (post_of c k xs) fits)

pub loop-count-preserved : goal.loop-count-preserved
loop-count-preserved g c = record {
  within = grind (arith, common_steps);
  bytes =
      rw (front_and c.loop-count.buffer c.read.new.buf c.loop-count.count _ c.in-Ok.n (omega arith) c.in-Ok.ensures.bound.0)
      (Consumes-trans _ _ _ _ _ c.loop-count.invariant.bytes c.in-Ok.ensures.bytes.0);
}

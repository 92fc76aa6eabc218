-- A head and a tail in a buffer: laid where they fit, and nothing changed where they do not.
use mathlib.Core.Path.{◌≡◌, ap, ◌∙◌}
use Prim.Native.Nat.{ℕ, ◌+◌, ◌≤◌, ◌<◌}
use native.Mathlib.Omega.{arith}
use mathlib.Core.Bool.{true, false, cond}
use lib.ListN.{length}
use lib.Dec.{leb}
use borrow.Author.Tests.{le-leb, lt-leb}
use Rattle.lines.specs.Bytes.{Bytes}
use Rattle.lines.specs.Buffers.{put}
use Rattle.lines.proofs.Bools.{both, and_false}
use Rattle.lines.proofs.Buffers.{length-put}
use Rattle.listing.specs.Texts.{fits, length_in, laid_in}

-- the answer n, and the buffer after it
abbrev pub Laid : Bytes → Bytes → ℕ → Bytes → ℕ → Bytes → Type 0
Laid b h at t n after = (n ≡ length_in b h at t) × ((after ≡ laid_in b h at t) × (n ≤ length after))

pub unfit : (b h : Bytes) (at : ℕ) (t : Bytes) → fits b h at t ≡ false → Laid b h at t 0 b
unfolding length_in laid_in
unfit b h at t e = (rw e, (rw e, omega arith))

-- the head reaches past the tail
pub unfit_head : (b h : Bytes) (at : ℕ) (t : Bytes) → at < length h → Laid b h at t 0 b
unfit_head b h at t l = unfit b h at t (rw (lt-leb (length h) at l))

-- the tail reaches past the end
pub unfit_tail : (b h : Bytes) (at : ℕ) (t : Bytes) → length b < at + length t → Laid b h at t 0 b
unfit_tail b h at t l = unfit b h at t (rw (lt-leb (at + length t) (length b) l) (and_false (leb (length h) at)))

-- a copy that fits
copied : (b p : Bytes) (at : ℕ) (after : Bytes) → at + length p ≤ length b
    → after ≡ cond (leb (at + length p) (length b)) (put b at p) b → after ≡ put b at p
copied b p at after l e = e ∙ rw (le-leb (at + length p) (length b) l)

-- both copies
pub fit : (b h : Bytes) (at : ℕ) (t one two : Bytes) → length h ≤ at → at + length t ≤ length b
    → one ≡ cond (leb (0 + length h) (length b)) (put b 0 h) b
    → two ≡ cond (leb (at + length t) (length one)) (put one at t) one
    → Laid b h at t (at + length t) two
unfolding length_in laid_in
fit b h at t one two k l e f =
    let first : one ≡ put b 0 h = copied b h 0 one (omega arith) e in
    let n : length one ≡ length b = ap length first ∙ length-put b 0 h (omega arith) in
    let second : two ≡ put one at t = copied one t at two (omega arith) f in
    let m : length two ≡ length one = ap length second ∙ length-put one at t (omega arith) in
    let y : fits b h at t ≡ true = both (leb (length h) at) (leb (at + length t) (length b)) (le-leb (length h) at k) (le-leb (at + length t) (length b) l) in
    (rw y, (second ∙ rw (y, first), omega arith))

-- Demand 3 from what calls of `normal_text` promise: a call on an accepted file leaves the normal text of its sections, and
-- the laws of normal_text say the rest of that text.
use mathlib.Core.Path.{◌≡◌, refl, sym, ap, ◌∙◌}
use Prim.Native.Nat.{ℕ, ◌≤◌, ◌<◌}
use native.Mathlib.Omega.{arith}
use mathlib.Core.Bool.{Bool, true, false, ◌||◌, cond}
use mathlib.Core.List.{List}
use lib.Dec.{ltb}
use lib.ListN.{length, take}
use borrow.Author.Tests.{lt-ltb, ltb-true, ltb-false}
use Rattle.lines.specs.Bytes.{Bytes}
use Rattle.lines.specs.Answers.{Outcome, accepted, refused}
use Rattle.lines.proofs.Bools.{by_cases, or_left, or_right}
use Rattle.lines.proofs.Buffers.{take-filled}
use Rattle.table.specs.Tables.{Table, and_then, verdict}
use Rattle.table.specs.Answers.{counts_of, text_after, sections_after, entries_after, read_in}
use Rattle.table.proofs.Laws.{refusals_are_numbered}
use Rattle.normal_text.specs.Sections.{Pair, Section, sections_of, sections_in}
use Rattle.normal_text.specs.NormalText.{normal_text}
use Rattle.normal_text.specs.declared.normal.Sizes.{Sizes}
use Rattle.normal_text.specs.Answers.{normal_means, normal_of, sizes_of, sized, out_after, normal_in}
use Rattle.normal_text.proofs.Laws.{table_of_sections, normal_text_fits, normal_text_reads_back, normal_text_tells, enough_space_decides}
use Rattle.claims.specs.Demand3.{AnyCall, Call, Short, short_text, short_sections, short_entries, short_out, length_said, length_by, left_by, Leaves, AcceptedLeaves, SameText, LeftIsAccepted, LeftIsRead, LeftIsItsOwn, TextTells, TextFits, RefusedWith, RefusedFile, ShortBuffers, NotOneIsCall, CallIsNotOne}
use Rattle.lines.proofs.Outcomes.{not_accepted, same_refusal}
use Rattle.claims.proofs.ExcludedReads.{counts_of_table}

-- ---- what a call has by its promise, where its outcome is known

-- the outcome of a call, by its definition
abbrev pub outcome_of : {f : Bytes} → AnyCall f → Outcome Table
outcome_of {f} c = normal_in (length c.text) (length c.sections) (length c.entries) (length c.out) f

-- a refusal leaves everything
refused_with : {f : Bytes} (c : AnyCall f) (n p : ℕ) → outcome_of c ≡ refused n p → RefusedWith n p c
refused_with c n p e =
    record {
      answer = c.promise.answer ∙ ap sized e;
      text_kept = c.promise.left.new_text ∙ ap (λ (o : Outcome Table). text_after o c.text) e;
      sections_kept = c.promise.left.new_sections ∙ ap (λ (o : Outcome Table). sections_after o c.sections) e;
      entries_kept = c.promise.left.new_entries ∙ ap (λ (o : Outcome Table). entries_after o c.entries) e;
      out_kept = c.promise.new_out ∙ ap (λ (o : Outcome Table). out_after o c.out) e;
    }

-- a table leaves its normal text
pub leaves_table : {f : Bytes} (c : Call f) (t : Table) → outcome_of c.made ≡ accepted t → Leaves (sections_of t) c
leaves_table c t e =
    let a : normal_means c.made.answer ≡ sized (accepted t) = c.made.promise.answer ∙ ap sized e in
    record {
      counts = counts_of t;
      accepted_with = a;
      text_left =
          ap (λ (s : Outcome Sizes). take (length_said s) c.made.new_out) a
          ∙ ap (take (length (normal_of t))) (c.made.promise.new_out ∙ ap (λ (o : Outcome Table). out_after o c.made.out) e)
          ∙ take-filled (normal_of t) c.made.out;
    }

-- ---- a short buffer

-- one short buffer decides
one_short : (out text sections entries : Bool) (o : Outcome Table) → (out || (text || (sections || entries))) ≡ true
    → cond out (refused 1 0) (cond (text || (sections || entries)) (refused 1 0) o) ≡ refused 1 0
one_short true text sections entries o h = refl
one_short false text sections entries o h = rw h

pub short_buffers : ShortBuffers
unfolding normal_in read_in
short_buffers f c s = refused_with c 1 0 (one_short (ltb (length c.out) 65535) (ltb (length c.text) 65535) (ltb (length c.sections) 128) (ltb (length c.entries) 2560) (verdict f) (some_short s))
  where
    some_short : Short c → (ltb (length c.out) 65535 || (ltb (length c.text) 65535 || (ltb (length c.sections) 128 || ltb (length c.entries) 2560))) ≡ true
    some_short (short_out h) = or_left (ltb (length c.out) 65535) _ (lt-ltb _ _ h)
    some_short (short_text h) = or_right (ltb (length c.out) 65535) _ (or_left (ltb (length c.text) 65535) _ (lt-ltb _ _ h))
    some_short (short_sections h) =
        or_right (ltb (length c.out) 65535) _ (or_right (ltb (length c.text) 65535) _ (or_left (ltb (length c.sections) 128) _ (lt-ltb _ _ h)))
    some_short (short_entries h) =
        or_right (ltb (length c.out) 65535) _ (or_right (ltb (length c.text) 65535) _ (or_right (ltb (length c.sections) 128) _ (lt-ltb _ _ h)))

-- a buffer is long enough, where its being short is absurd
enough : (n m : ℕ) → (n < m → ⊥) → m ≤ n
enough n m h = by_cases (ltb n m) (λ e. absurd (h (ltb-true n m e))) (λ e. ltb-false n m e)

pub not_one_is_call : NotOneIsCall
not_one_is_call f c h =
    let never : Short c → ⊥ = λ s. h (short_buffers f c s).answer in (
      record {
        made = c;
        text_size = enough (length c.text) 65535 (λ l. never (short_text l));
        sections_size = enough (length c.sections) 128 (λ l. never (short_sections l));
        entries_size = enough (length c.entries) 2560 (λ l. never (short_entries l));
        out_size = enough (length c.out) 65535 (λ l. never (short_out l));
      },
      refl,
    )

-- ---- with buffers that are not too short

-- the outcome of the call is the verdict on the file
pub decided : (f : Bytes) (c : Call f) → outcome_of c.made ≡ verdict f
decided f c = enough_space_decides _ _ _ _ f c.text_size c.sections_size c.entries_size c.out_size

pub call_is_not_one : CallIsNotOne
call_is_not_one f c q h = go (verdict f) refl
  where
    go : (o : Outcome Table) → verdict f ≡ o → ⊥
    go (accepted t) e = not_accepted 1 q (sizes_of t) (sym h ∙ c.made.promise.answer ∙ ap sized (decided f c ∙ e))
    go (refused n p) e =
        let z : ◌≡◌ {A = Outcome Sizes} (refused 1 q) (refused n p) = sym h ∙ c.made.promise.answer ∙ ap sized (decided f c ∙ e) in
        let y : 1 ≡ n = cc z in
        absurd (omega (arith, y, (refusals_are_numbered f n p e).0))

pub refused_file : RefusedFile
unfolding sections_in and_then
refused_file f n p e c =
    let made : Outcome Table → Outcome (List (Section Pair)) = λ o. and_then o (λ t. accepted (sections_of t)) in
    refused_with c.made n p (decided f c ∙ same_refusal made (λ t. (sections_of t, refl)) (λ m q. refl) (verdict f) n p e)

pub accepted_leaves : AcceptedLeaves
accepted_leaves f ss e c =
    let t = table_of_sections f ss e in
    rw (← t.2) (leaves_table c t.0 (decided f c ∙ t.1))

pub same_text : SameText
same_text f ss e c d = (accepted_leaves f ss e c).text_left ∙ sym (accepted_leaves f ss e d).text_left

-- the length that is said is that of the normal text
length_is : (f : Bytes) (ss : List (Section Pair)) → sections_in f ≡ accepted ss → (c : Call f) → length_by c ≡ length (normal_text ss)
length_is f ss e c = ap length_said (accepted_leaves f ss e c).accepted_with

pub left_is_accepted : LeftIsAccepted
left_is_accepted f ss e c = ap sections_in (accepted_leaves f ss e c).text_left ∙ normal_text_reads_back f ss e

pub left_is_read : LeftIsRead
left_is_read f ss e c r d =
    let t = table_of_sections (left_by c) ss (left_is_accepted f ss e c) in
    (t.0, t.1, counts_of_table (left_by c) t.0 r t.1 d, t.2)

pub left_is_its_own : LeftIsItsOwn
left_is_its_own f ss e c d =
    let k = left_is_accepted f ss e c in
    let l = accepted_leaves (left_by c) ss k d in
    (l, length_is (left_by c) ss k d ∙ sym (length_is f ss e c), l.text_left ∙ sym (accepted_leaves f ss e c).text_left)

pub text_tells : TextTells
text_tells f g ss ts e h c d =
    let i = normal_text_tells f g ss ts e h in
    let a = (accepted_leaves f ss e c).text_left in
    let b = (accepted_leaves g ts h d).text_left in
    (λ q. a ∙ i.0 q ∙ sym b, λ q. i.1 (sym a ∙ q ∙ b))

pub text_fits : TextFits
text_fits f ss e c =
    let w : length (left_by c) ≡ length (normal_text ss) = ap length (accepted_leaves f ss e c).text_left in
    let l = normal_text_fits f ss e in
    record {
      whole = w ∙ sym (length_is f ss e c);
      no_longer = omega (arith, w, l.0);
      inside = omega (arith, w, l.0, l.1, c.out_size);
    }

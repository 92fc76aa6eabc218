-- A call of `normal_text`: what the read call has left is the file's table, whose normal text fits; and what is then put.
use Rattle.std.specs.Prelude.{Result, Ok, Err}
use Rattle.std.specs.Result.{IsErrAnd}
use mathlib.Core.Path.{◌≡◌, refl, sym, ap, subst, ◌∙◌}
use Prim.Native.Nat.{ℕ, ◌≤◌, ◌<◌}
use native.Mathlib.Nat.{zero-add}
use native.Mathlib.Omega.{arith}
use mathlib.Core.Bool.{◌||◌}
use mathlib.Core.Option.{some}
use mathlib.Core.List.{List}
use lib.ListN.{length}
use lib.Dec.{ltb}
use borrow.Author.Tests.{lt-ltb}
use Rattle.lines.specs.Bytes.{Bytes}
use Rattle.lines.specs.Answers.{Outcome, accepted, refused}
use Rattle.lines.specs.Buffers.{filled, Puts}
use Rattle.lines.specs.declared.error.Error.TheVariants.{ShortBuffer}
use Rattle.lines.proofs.Bools.{by_cases}
use Rattle.lines.proofs.Outcomes.{not_accepted}
use Rattle.table.specs.Tables.{Table, entries, verdict}
use Rattle.table.specs.Contents.{text_of, section_numbers, entry_numbers}
use Rattle.table.specs.Answers.{number_of, place_of, counts_of, counted, text_after, sections_after, entries_after, ReadLeaves, read_in, Reads}
use Rattle.table.specs.declared.error.Error.{Error}
use Rattle.table.specs.declared.error.Error.TheVariants.{File}
use Rattle.table.specs.declared.state.Counts.{Counts}
use Rattle.table.proofs.Laws.{tables_fit}
use Rattle.table.proofs.ReadCalls.{table_kept}
use Rattle.lookup.specs.Decoding.{lent, table_in}
use Rattle.lookup.specs.Laws.{Sound, read_into, decoded_of}
use Rattle.lookup.proofs.Laws.{tables_decode}
use Rattle.normal_text.specs.Sections.{sections_of}
use Rattle.normal_text.specs.NormalText.{normal_text}
use Rattle.normal_text.specs.Answers.{normal_of, sized, out_after, NormalLeaves, normal_in, Normalizes}
use Rattle.normal_text.specs.declared.normal.Sizes.{Sizes}
use Rattle.normal_text.specs.Steps.{sections_said}
use Rattle.normal_text.proofs.Records.{sound, sections_told}
use Rattle.normal_text.proofs.Theorem.{sections_in_lem, normal_fits, space_decides}

-- ---- 1

pub no_space : (f text : Bytes) (sections entries : List ℕ) (out : Bytes) → length out < 65535
    → Normalizes f text sections entries out (Err (File ShortBuffer)) text sections entries out
no_space f text sections entries out h =
    let e : normal_in (length text) (length sections) (length entries) (length out) f ≡ refused 1 0 = unfold normal_in in (rw (lt-ltb (length out) 65535 h)) in
    record {
      answer = ap sized (sym e);
      left = table_kept _ 1 0 e text sections entries;
      new_out = ap (λ (o : Outcome Table). out_after o out) (sym e);
    }

-- ---- what an answer of the reader says

-- a call that is accepted has read a table
which_table : (o : Outcome Table) (c : Counts) → accepted c ≡ counted o → (t : Table) × (o ≡ accepted t) × (c ≡ counts_of t)
which_table (accepted t) c e = (t, refl, cc e)
which_table (refused n p) c e = not_accepted n p c (sym e)

-- where the reader is not refused with 1, it reads what the file's bytes say
read_verdict : (a b c : ℕ) (f : Bytes) (t : Table) → read_in a b c f ≡ accepted t → verdict f ≡ accepted t
unfolding read_in
read_verdict a b c f t e =
    by_cases (ltb a 65535 || (ltb b 128 || ltb c 2560))
    (λ q. not_accepted 1 0 t (rw q at e))
    (λ q. rw q at e)

-- buffers and counts that are equal
same_lent : {text text' : Bytes} {ns ns' : List ℕ} {m m' : ℕ} {es es' : List ℕ} {k k' : ℕ}
    → text ≡ text' → ns ≡ ns' → es ≡ es' → m ≡ m' → k ≡ k' → lent text ns m es k ≡ lent text' ns' m' es' k'
same_lent p q r s u = rw (p, q, r, s, u)

-- ---- a read call that was accepted: d, e and g are the buffers before it

module _ (f d : Bytes) (e g : List ℕ) (r : Result Counts Error) (text : Bytes) (sections numbers : List ℕ)
    (read : Reads f d e g r text sections numbers) (counts : Counts) (known : r ≡ Ok counts) where
  abbrev outcome : Outcome Table
  outcome = read_in (length d) (length e) (length g) f

  promise : Reads f d e g (Ok counts) text sections numbers
  promise = subst (λ (a : Result Counts Error). Reads f d e g a text sections numbers) known read

  abbrev m : ℕ
  m = counts.sections

  abbrev k : ℕ
  k = counts.entries

  there : (t : Table) × (outcome ≡ accepted t) × (counts ≡ counts_of t)
  there = which_table outcome counts promise.answer

  abbrev t : Table
  t = there.0

  judged : verdict f ≡ accepted t
  judged = read_verdict (length d) (length e) (length g) f t there.1

  text_is : text ≡ filled (text_of t.events) d
  text_is = promise.left.new_text ∙ ap (λ (o : Outcome Table). text_after o d) there.1

  sections_are : sections ≡ filled (section_numbers t.events) e
  sections_are = promise.left.new_sections ∙ ap (λ (o : Outcome Table). sections_after o e) there.1

  entries_are : numbers ≡ filled (entry_numbers t.events) g
  entries_are = promise.left.new_entries ∙ ap (λ (o : Outcome Table). entries_after o g) there.1

  -- the buffers hold the table
  lent_is : lent text sections m numbers k ≡ read_into t d e g
  lent_is =
      same_lent
      text_is sections_are entries_are
      (ap (λ (c : Counts). c.sections) there.2)
      (ap (λ (c : Counts). c.entries) there.2)

  decodes : table_in (lent text sections m numbers k) ≡ some (decoded_of t)
  decodes = ap table_in lent_is ∙ tables_decode f t judged d e g

  -- so its sections are said by the records
  said : normal_text (sections_said (lent text sections m numbers k)) ≡ normal_of t
  unfolding sections_of
  said = ap normal_text (sections_told (lent text sections m numbers k) (decoded_of t) decodes)

  fits : length (normal_text (sections_said (lent text sections m numbers k))) ≤ 65535
  fits =
      let h = normal_fits f (sections_of t) (sections_in_lem f t judged) in
      omega (arith, ap length said, h.0, h.1)

  -- what putting the normal text asks for
  pub asked : (out : Bytes) → 65535 ≤ length out
      → Sound (lent text sections m numbers k) × (m ≤ 64) × (k ≤ 512)
      × (length (normal_text (sections_said (lent text sections m numbers k))) ≤ length out)
  asked out h =
      let s = (tables_fit f t judged).0 in (
        sound (lent text sections m numbers k) (decoded_of t) decodes,
        omega (arith, ap (λ (c : Counts). c.sections) there.2, s.few_sections),
        omega (arith, ap (λ (c : Counts). c.entries) there.2, s.few_entries),
        omega (arith, fits),
      )

  -- what stands in the four buffers when it was put
  pub written_out : (out : Bytes) → 65535 ≤ length out → (l : ℕ) (out' : Bytes)
      → Puts out 0 (normal_text (sections_said (lent text sections m numbers k))) l out'
      → Normalizes f d e g out (Ok (record { length = l; table = counts })) text sections numbers out'
  written_out out h l out' p =
      let o : normal_in (length d) (length e) (length g) (length out) f ≡ accepted t = space_decides (length d) (length e) (length g) (length out) f h ∙ there.1 in
      let long : l ≡ length (normal_of t) = omega (arith, p.behind, ap length said) in
      subst (λ (v : Outcome Table). NormalLeaves v d e g out (Ok (record { length = l; table = counts })) text sections numbers out') (sym o)
      (record {
        answer = rw long (ap (λ (c : Counts). accepted (record { length = length (normal_of t); table = c })) there.2);
        left = record { new_text = text_is; new_sections = sections_are; new_entries = entries_are };
        new_out = p.after ∙ rw (said, zero-add);
      })

-- ---- a read call that was refused

-- the refusal is that of the call, and nothing has changed
pub read_refused : (f d : Bytes) (e g : List ℕ) (r : Result Counts Error) (text : Bytes) (sections numbers : List ℕ) → Reads f d e g r text sections numbers
    → (k : Error) → r ≡ Err k → (out : Bytes) → 65535 ≤ length out → Normalizes f d e g out (Err k) text sections numbers out
read_refused f d e g r text sections numbers read k known out h =
    subst (λ (v : Outcome Table). NormalLeaves v d e g out (Err k) text sections numbers out)
    (sym (space_decides (length d) (length e) (length g) (length out) f h))
    (go (read_in (length d) (length e) (length g) f) (subst (λ (a : Result Counts Error). Reads f d e g a text sections numbers) known read))
  where
    go : (o : Outcome Table) → ReadLeaves o d e g (Err k) text sections numbers → NormalLeaves o d e g out (Err k) text sections numbers out
    go (accepted t) p = not_accepted (number_of k) (place_of k) (counts_of t) p.answer
    go (refused n q) p = record {
      answer = cc p.answer;
      left = p.left;
      new_out = refl;
    }

-- the error that `?` hands on
pub handed_on : (r : Result Sizes Error) (k : Error) → IsErrAnd r (λ e. e ≡ k) → r ≡ Err k
handed_on (Ok s) k h = absurd h
handed_on (Err e) k h = ap (λ (d : Error). Err d) h

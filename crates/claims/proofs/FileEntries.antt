-- The function that reads, looks up and asks for the value: what it answers and leaves, by the answers of the three calls.
use Rattle.std.specs.Prelude.{Result, Ok, Err}
use mathlib.Core.Path.{◌≡◌, refl, sym, ap, ◌∙◌}
use Prim.Native.Nat.{ℕ, ◌+◌, ◌≤◌, ◌<◌}
use native.Mathlib.Nat.{zero-add}
use native.Mathlib.Omega.{arith}
use mathlib.Core.Bool.{cond}
use mathlib.Core.List.{List}
use lib.ListN.{length, take, drop, length-take}
use lib.Dec.{leb}
use borrow.Author.Tests.{lt-ltb, le-ltb}
use Rattle.std.specs.Prelude.{Result, Ok, Err}
use Rattle.lines.specs.Bytes.{Bytes}
use Rattle.lines.specs.Answers.{Outcome, accepted, refused}
use Rattle.lines.specs.Buffers.{put}
use Rattle.lines.specs.declared.error.Error.TheVariants.{ShortBuffer}
use Rattle.lines.proofs.Buffers.{copied}
use Rattle.table.specs.Tables.{Table, and_then, verdict}
use Rattle.table.specs.Answers.{number_of, place_of, error_means, read_means, counts_of, counted, Reads}
use Rattle.table.specs.declared.error.Error.{Error}
use Rattle.table.specs.declared.error.Error.TheVariants.{File}
use Rattle.table.specs.declared.state.Counts.{Counts}
use Rattle.table.proofs.Laws.{enough_space_decides}
use Rattle.lookup.specs.Decoding.{Lent, lent}
use Rattle.lookup.specs.Questions.{Part, index_in, value_in, part_in}
use Rattle.lookup.specs.Answers.{find_means, bytes_or, HandsBack}
use Rattle.lookup.specs.Answers as lookup
use Rattle.lookup.specs.Laws.{PartOfValue}
use Rattle.lookup.specs.declared.error.Error as missing
use Rattle.lookup.specs.declared.search.Which.{Which}
use Rattle.lookup.proofs.Laws.{parts_are_values, found_are_entries}
use Rattle.claims.specs.LookUps.{AcceptedRead, lent_after, index_in_table, value_in_table, Located, look_up_in, look_up_means, shown, value_after, Gets}
use Rattle.claims.specs.Steps.{look_up_lent, Asks}
use Rattle.claims.specs.declared.look_up.Found.{Found}
use Rattle.claims.specs.declared.look_up.LookUpError.{LookUpError}
use Rattle.claims.specs.declared.look_up.LookUpError.TheVariants.{NotRead, NotFound}
use Rattle.claims.proofs.LookedUp.{table_there, index_is, value_is}
use Rattle.lines.proofs.Outcomes.{not_accepted, same_refusal}

-- ---- what an answer and a buffer say of an outcome

module _ (b : Lent) (w : Which) (x k : Bytes) (out : Bytes) where
  asks : (o : Outcome Located) → look_up_lent b w x k ≡ o → (r : Result Found LookUpError) (out' : Bytes)
      → look_up_means r ≡ shown o → out' ≡ value_after o out → Asks b w x k out r out'
  asks o e r out' p q = record { answer = p ∙ sym (ap shown e); new_out = q ∙ sym (ap (λ (z : Outcome Located). value_after z out) e) }

  -- no such entry
  pub asks_missing : (r : Result ℕ missing.Error) (d : missing.Error) → r ≡ Err d → find_means r ≡ index_in b w x k → Asks b w x k out (Err (NotFound d)) out
  unfolding look_up_lent and_then
  asks_missing r d q e =
      let i : index_in b w x k ≡ lookup.error_means d = sym e ∙ ap find_means q in
      asks (lookup.error_means d) (rw i) (Err (NotFound d)) out refl refl

  -- a value is no longer than the text
  value-fits : (i : ℕ) (v : Bytes) → value_in b i ≡ accepted v → length v ≤ length b.text
  value-fits i v e = go (part_in b i) (parts_are_values b i)
    where
      go : (o : Outcome Part) → PartOfValue b i o → length v ≤ length b.text
      go (accepted p) h =
          let q : v ≡ take p.size (drop p.start b.text) = cc (sym e ∙ h.1) in
          omega (arith, ap length q, length-take p.size (drop p.start b.text), h.0)
      go (refused n p) h = not_accepted n p v (sym h ∙ e)

  module _ (r : Result ℕ missing.Error) (i : ℕ) (q : r ≡ Ok i) (e : find_means r ≡ index_in b w x k)
      (at p : ℕ × ℕ) (v : Bytes) (h : HandsBack b i at p v) (l : length b.text ≤ length out) where
    index : index_in b w x k ≡ accepted i
    index = sym e ∙ ap find_means q

    value : value_in b i ≡ accepted v
    value =
        let f = found_are_entries b w x k i index in
        let g : v ≡ f.stands.entry.value = h.bytes ∙ ap bytes_or f.value in
        f.value ∙ ap accepted (sym g)

    pub asks_found : (out' : Bytes) → out' ≡ cond (leb (0 + length v) (length out)) (put out 0 v) out → Asks b w x k out (Ok (record { index = i; length = length v })) out'
    unfolding look_up_lent and_then
    asks_found out' c =
        let n : 0 + length v ≤ length out = omega (arith, value-fits i v value) in
        asks (accepted (record { index = i; value = v })) (rw (index, value)) (Ok (record { index = i; length = length v })) out' refl
        (copied out out' v 0 n c ∙ rw zero-add)

-- ---- the whole call

module _ (f : Bytes) (w : Which) (x k : Bytes) (out : Bytes) where
  gets : (o : Outcome Located) → look_up_in (length out) f w x k ≡ o → (r : Result Found LookUpError) (out' : Bytes)
      → look_up_means r ≡ shown o → out' ≡ value_after o out → Gets f w x k out r out'
  gets o e r out' p q = record { answer = p ∙ sym (ap shown e); new_out = q ∙ sym (ap (λ (z : Outcome Located). value_after z out) e) }

  pub gets_short : length out < 65535 → Gets f w x k out (Err (NotRead (File ShortBuffer))) out
  unfolding look_up_in
  gets_short h = gets (refused 1 0) (rw (lt-ltb (length out) 65535 h)) (Err (NotRead (File ShortBuffer))) out refl refl

  module _ (h : 65535 ≤ length out) (text : Bytes) (sections entries : List ℕ) (r : Result Counts Error) (text' : Bytes) (sections' entries' : List ℕ)
      (p : Reads f text sections entries r text' sections' entries') where
    -- the file is refused
    pub gets_refused : 65535 ≤ length text → 128 ≤ length sections → 2560 ≤ length entries
        → (e : Error) → r ≡ Err e → Gets f w x k out (Err (NotRead e)) out
    unfolding look_up_in and_then
    gets_refused a b c e q =
        let d = enough_space_decides (length text) (length sections) (length entries) f a b c in
        let v : counted (verdict f) ≡ error_means e = ap counted (sym d) ∙ sym p.answer ∙ ap read_means q in
        let o : verdict f ≡ error_means e = same_refusal counted (λ t. (counts_of t, refl)) (λ n p. refl) (verdict f) (number_of e) (place_of e) v in
        gets (error_means e) (rw (le-ltb (length out) 65535 h, o)) (Err (NotRead e)) out refl refl

    -- the file has a table
    pub gets_asked : (counts : Counts) → r ≡ Ok counts → (s : Result Found LookUpError) (out' : Bytes)
        → Asks (lent text' sections' counts.sections entries' counts.entries) w x k out s out' → Gets f w x k out s out'
    unfolding look_up_in look_up_lent and_then
    gets_asked counts q s out' a =
        let c : AcceptedRead f = record {
          text_before = text;
          sections_before = sections;
          entries_before = entries;
          text = text';
          sections = sections';
          entries = entries';
          answer = r;
          counts = counts;
          promise = p;
          accepted_with = ap read_means q;
        } in
        let t = table_there f c in
        gets (look_up_lent (lent text' sections' counts.sections entries' counts.entries) w x k)
        (rw (le-ltb (length out) 65535 h, t.1) (same_questions t.0 t.1 c))
        s out' a.answer a.new_out
      where
        same_questions : (t : Table) → verdict f ≡ accepted t → (c : AcceptedRead f)
            → and_then {B = Located} (index_in_table t w x k) (λ i. and_then (value_in_table t i) (λ v. accepted (record { index = i; value = v })))
            ≡ look_up_lent (lent_after c) w x k
        same_questions t v c = rw (← index_is f t v c w x k) (go (index_in (lent_after c) w x k))
          where
            go : (o : Outcome ℕ) → and_then {B = Located} o (λ i. and_then (value_in_table t i) (λ v. accepted (record { index = i; value = v })))
                ≡ and_then o (λ i. and_then (value_in (lent_after c) i) (λ v. accepted (record { index = i; value = v })))
            go (accepted i) = rw (value_is f t v c i)
            go (refused n p) = refl

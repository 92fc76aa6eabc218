-- The round trip from what `write` and `split` promise, and of the function that makes both calls.
use mathlib.Core.Path.{◌≡◌, refl, sym, ap, subst, ◌∙◌}
use Prim.Native.Nat.{ℕ, ◌≤◌, ◌<◌}
use native.Mathlib.Omega.{arith}
use mathlib.Core.List.{List}
use lib.ListN.{length, take, get_or}
use lib.Seq.{length-take-le}
use borrow.Author.Tests.{lt-ltb, le-ltb}
use Rattle.lines.specs.Bytes.{Bytes}
use Rattle.lines.specs.Answers.{Outcome, accepted, refused}
use Rattle.lines.specs.Buffers.{filled}
use Rattle.lines.proofs.Buffers.{take-filled, length-filled}
use Rattle.items.specs.Write.{written, items_in, write_in}
use Rattle.items.specs.Answers.{number_of, place_of, counted, bytes_after, ends_after, Splits}
use Rattle.items.specs.Laws.{LaidAgain, WriteHas}
use Rattle.items.specs.Write.{last_end}
use Rattle.items.specs.declared.error.Error.{Error}
use Rattle.items.specs.declared.splitter.Counts.{Counts}
use Rattle.items.specs.declared.error.Error.TheVariants.{ShortBuffer}
use Rattle.items.proofs.Laws.{cut_is_laid_again, write_is_accepted, accepted_write_has}
use Rattle.item_writer.specs.Answers.{measured, text_after, Writes}
use Rattle.claims.specs.RoundTrip.{Lent, WriteAccepts, Back, SplitComesBack, trip_in, trip_counts, bytes_back, ends_back, Trip}
use Rattle.std.specs.Prelude.{Result, Ok, Err}
use Rattle.claims.proofs.ListBack.{accepted_lent, text_splits, length_back, list_again}
use Rattle.lines.proofs.Outcomes.{not_accepted, same_refusal}

-- ---- from what the calls promise

pub write_accepts : WriteAccepts
write_accepts bytes ends out w out' l h p =
    let e = write_is_accepted (length out) bytes ends h l.fit l.writable in
    let t = written (items_in bytes ends) in
    record {
      accepted_with = p.answer ∙ ap measured e;
      text =
          ap (take (length t)) (p.new_out ∙ ap (λ (o : Outcome Bytes). text_after o out) e)
          ∙ take-filled t out;
    }

-- what a split call of the text gives
back_from : (bytes : Bytes) (ends : List ℕ) → Lent bytes ends → (b : Bytes) (e : List ℕ) (r : Result Counts Error) (b' : Bytes) (e' : List ℕ)
    → 4096 ≤ length b → 256 ≤ length e → Splits (written (items_in bytes ends)) b e r b' e' → Back bytes ends b e r b' e'
back_from bytes ends l b e r b' e' h k s =
    let o = text_splits bytes ends l (length b) (length e) h k in
    let a : LaidAgain bytes ends = cut_is_laid_again bytes ends l.fit in
    let n : length (take (last_end 0 ends) bytes) ≡ last_end 0 ends = length-take-le (last_end 0 ends) bytes a.inside in
    let bytes_are : b' ≡ filled (take (last_end 0 ends) bytes) b =
    s.left.new_bytes ∙ ap (λ (x : Outcome (List Bytes)). bytes_after x b) o ∙ rw a.bytes in
    let ends_are : e' ≡ filled ends e = s.left.new_ends ∙ ap (λ (x : Outcome (List Bytes)). ends_after x e) o ∙ rw a.ends_again in
    let bytes_front : take (last_end 0 ends) b' ≡ take (last_end 0 ends) bytes =
    ap (λ (i : ℕ). take i b') (sym n) ∙ ap (take (length (take (last_end 0 ends) bytes))) bytes_are ∙ take-filled (take (last_end 0 ends) bytes) b in
    let ends_front : take (length ends) e' ≡ ends = ap (take (length ends)) ends_are ∙ take-filled ends e in
    record {
      accepted_with = s.answer ∙ ap counted o ∙ rw (a.count, length_back bytes ends a);
      bytes_came_back = bytes_are;
      ends_came_back = ends_are;
      list_back = ap (λ (x : Bytes). items_in x (take (length ends) e')) bytes_front ∙ ap (items_in (take (last_end 0 ends) bytes)) ends_front ∙ list_again bytes ends a;
    }

pub split_comes_back : SplitComesBack
split_comes_back bytes ends out w out' l h p n q b e r b' e' hb he s =
    let g = write_accepts bytes ends out w out' l h p in
    let z : ◌≡◌ {A = Outcome ℕ} (accepted n) (accepted (length (written (items_in bytes ends)))) = sym q ∙ g.accepted_with in
    let m : n ≡ length (written (items_in bytes ends)) = cc z in
    let t : take n out' ≡ written (items_in bytes ends) = ap (λ (i : ℕ). take i out') m ∙ g.text in
    back_from bytes ends l b e r b' e' hb he (subst (λ (x : Bytes). Splits x b e r b' e') t s)

-- ---- the function

module _ (bytes : Bytes) (ends : List ℕ) (out b : Bytes) (e : List ℕ) where
  trip_refused : (k : Error) → trip_in (length out) (length b) (length e) bytes ends ≡ refused (number_of k) (place_of k)
      → Trip bytes ends out b e (Err k) out b e
  trip_refused k h =
      record {
        answer = sym (ap (trip_counts ends) h);
        new_out = sym (ap (λ (o : Outcome Bytes). text_after o out) h);
        new_bytes = sym (ap (λ (o : Outcome Bytes). bytes_back bytes ends o b) h);
        new_ends = sym (ap (λ (o : Outcome Bytes). ends_back ends o e) h);
      }

  pub trip_short_bytes : length b < 4096 → Trip bytes ends out b e (Err ShortBuffer) out b e
  unfolding trip_in
  trip_short_bytes h = trip_refused ShortBuffer (rw (lt-ltb (length b) 4096 h))

  module _ (hb : 4096 ≤ length b) where
    pub trip_short_ends : length e < 256 → Trip bytes ends out b e (Err ShortBuffer) out b e
    unfolding trip_in
    trip_short_ends h = trip_refused ShortBuffer (rw (le-ltb (length b) 4096 hb, lt-ltb (length e) 256 h))

    module _ (he : 256 ≤ length e) (out' : Bytes) where
      enough : trip_in (length out) (length b) (length e) bytes ends ≡ write_in (length out) bytes ends
      unfolding trip_in
      enough = rw (le-ltb (length b) 4096 hb, le-ltb (length e) 256 he)

      -- what the write call refuses is what its definition refuses
      pub trip_write_refused : (k : Error) → Writes bytes ends out (Err k) out' → Trip bytes ends out b e (Err k) out' b e
      trip_write_refused k p =
          let h : write_in (length out) bytes ends ≡ refused (number_of k) (place_of k) =
          same_refusal measured (λ t. (length t, refl)) (λ m q. refl) (write_in (length out) bytes ends) (number_of k) (place_of k) (sym p.answer) in
          let f = enough ∙ h in
          record {
            answer = sym (ap (trip_counts ends) f);
            new_out = p.new_out ∙ sym (ap (λ (o : Outcome Bytes). text_after o out) enough);
            new_bytes = sym (ap (λ (o : Outcome Bytes). bytes_back bytes ends o b) f);
            new_ends = sym (ap (λ (o : Outcome Bytes). ends_back ends o e) f);
          }

      module _ (n : ℕ) (p : Writes bytes ends out (Ok n) out') where
        written_text : (t : Bytes) × (write_in (length out) bytes ends ≡ accepted t) × (n ≡ length t)
        written_text = go (write_in (length out) bytes ends) (sym p.answer)
          where
            go : (o : Outcome Bytes) → measured o ≡ accepted n → (t : Bytes) × (o ≡ accepted t) × (n ≡ length t)
            go (accepted t) q = (t, refl, sym (cc q))
            go (refused m i) q = not_accepted m i n q

        -- the text lies in the buffer
        pub text_inside : n ≤ length out'
        text_inside =
            let t = written_text in
            let has : WriteHas (length out) bytes ends t.0 = accepted_write_has (length out) bytes ends t.0 t.1 in
            let x : out' ≡ filled t.0 out = p.new_out ∙ ap (λ (o : Outcome Bytes). text_after o out) t.1 in
            omega (arith, t.2, has.space, has.short, ap length x, length-filled t.0 out (omega (arith, has.space, has.short)))

        pub trip_back : ((i : ℕ) → get_or bytes i 0 < 256) → (r : Result Counts Error) (b' : Bytes) (e' : List ℕ)
            → Splits (take n out') b e r b' e' → Trip bytes ends out b e r out' b' e'
        trip_back f r b' e' s =
            let t = written_text in
            let has : WriteHas (length out) bytes ends t.0 = accepted_write_has (length out) bytes ends t.0 t.1 in
            let l : Lent bytes ends = accepted_lent (length out) bytes ends t.0 f has in
            let k : Back bytes ends b e r b' e' = split_comes_back bytes ends out (Ok n) out' l has.space p n refl b e r b' e' hb he s in
            let g = enough ∙ t.1 in
            record {
              answer = k.accepted_with ∙ sym (ap (trip_counts ends) g);
              new_out = p.new_out ∙ sym (ap (λ (o : Outcome Bytes). text_after o out) enough);
              new_bytes = k.bytes_came_back ∙ sym (ap (λ (o : Outcome Bytes). bytes_back bytes ends o b) g);
              new_ends = k.ends_came_back ∙ sym (ap (λ (o : Outcome Bytes). ends_back ends o e) g);
            }

-- TAKE by the code's own names: its refusals, a former place, a last one.
use Prim.Native.Nat.{ℕ, ◌+◌, ◌≤◌, ◌<◌}
use mathlib.Core.Path.{◌≡◌, refl, sym, ap, ◌∙◌, fun_ext}
use mathlib.Core.Bool.{false}
use mathlib.Core.Logic.{◌≢◌}
use mathlib.Core.List.{List}
use native.Mathlib.Omega.{arith}
use native.Mathlib.Numerals.{add-one}
use lib.ListN.{get_or, set, take}
use lib.Seq.{get_or-take, get_or-drop}
use borrow.Author.Tests.{ne_eqb, lt-ltb, le-ltb}
use Rattle.rules.specs.State.{at}
use Rattle.rules.specs.Bytes.{Take}
use Rattle.rules.specs.Steps as rules
use Rattle.rules.specs.Steps.{next_is_last}
use Rattle.rules.proofs.Places.{entries}
use Rattle.sets.specs.Bit.{bit}
use Rattle.state.specs.Slices.{Slices}
use Rattle.state.specs.View.{part, placed, place_in, order_in, shown, no_tally, NODES, ORDER, PLACE, TAKEN}
use Rattle.state.specs.Fit.{Last, Kept, Ready}
use Rattle.state.specs.Lent.{taking}
use Rattle.state.proofs.Lending.{Moves, Keeps}
use Rattle.state.specs.declared.Verdict.{Verdict}
use Rattle.state.specs.declared.Verdict.TheVariants.{Valid}
use Rattle.std.specs.Prelude.{Ok, Err}
use Rattle.refusals.specs.declared.Refusal.TheVariants.{OutOfRange, AllTaken}
use Rattle.state.specs.declared.Answer.TheVariants.{Took}
use Rattle.state.proofs.Keeping.{placed_same, place_same}
use Rattle.state.proofs.Known.{small, order_length}
use Rattle.state.proofs.Parts.{part_in, part_set}
use Rattle.state.proofs.Steps.{refused, accepted, same_state}
use Rattle.takes.specs.Take.{Taken}
use Rattle.takes.proofs.Keeping.{apart, queue_apart, kept_count}
use Rattle.takes.proofs.Taking as taking_last

-- what is kept of the lent slices is kept among the others
pub keeps : {m : ℕ} {b s q seen w b' s' q' : List ℕ} → Kept m b' s' q' → Keeps m (taking b s q seen w) (taking b' s' q' seen w)
keeps k x f = record { kept = k; value = f.value; seen = f.seen; sheets = f.sheets }

module _ {m : ℕ} {b s q : List ℕ} (r : Ready m b s q) (seen w : List ℕ) (n : ℕ) where
  pub out_node : get_or b NODES 0 ≤ n → Moves m (taking b s q seen w) (Take n) (taking b s q seen w) (Err OutOfRange)
  out_node h x = refused (λ tally. rw (le-ltb n (get_or b NODES 0) h))

  module _ (nn : n < get_or b NODES 0) where
    pub node8 : n < 8
    node8 = let a = r.known.nodes8 in omega arith

    count : part TAKEN 8 q n ≡ get_or q (TAKEN + n) 0
    count = part_in TAKEN 8 q n node8

    pub out_places : placed q ≤ get_or q (TAKEN + n) 0 → Moves m (taking b s q seen w) (Take n) (taking b s q seen w) (Err AllTaken)
    out_places h x = refused (λ tally. rw (lt-ltb n (get_or b NODES 0) nn, order_length r.kept.sized, count, le-ltb (get_or q (TAKEN + n) 0) (placed q) h))

    module _ {p t : ℕ} (ep : p ≡ get_or q (TAKEN + n) 0) (next : p < placed q) (et : t ≡ get_or b (ORDER + p) 0) where
      here : at (order_in b) p ≡ t
      here = get_or-drop ORDER b p 0 ∙ sym et

      count_p : part TAKEN 8 q n ≡ p
      count_p = count ∙ sym ep

      pub save32 : t < 32
      save32 = rw here at (small r p next)

      pub place_at : place_in q t ≡ get_or q (PLACE + t) 0
      place_at = part_in PLACE 32 q t save32

      abbrev q₁ : List ℕ
      q₁ = set q (TAKEN + n) (p + 1)

      pub kept_former : Kept m b s q₁
      kept_former = kept_count q n (p + 1) node8 r.kept

      next_here : (x : Slices) → rules.next (shown m (taking b s q seen w x) no_tally) n ≡ t
      next_here x = rw count_p (get_or-take (placed q) (order_in b) p 0 next ∙ here)

      pub moves_former : get_or q (PLACE + t) 0 ≢ p → Moves m (taking b s q seen w) (Take n) (taking b s q₁ seen w) (Ok (Took t Valid))
      moves_former d x =
          let f : next_is_last (shown m (taking b s q seen w x) no_tally) n ≡ false = rw (next_here x) (rw (count_p, place_at) (ne_eqb (get_or q (PLACE + t) 0) p d)) in
          let e = apart q n (p + 1) node8 in
          accepted
          (λ tally. rw (lt-ltb n (get_or b NODES 0) nn, order_length r.kept.sized, count_p, lt-ltb p (placed q) next))
          (λ tally. rw f (same_state refl refl
          (fun_ext (λ k. rw (place_same e, placed_same e) (ap (λ (f : ℕ → ℕ). entries (order_in b) (place_in q) (bit (f k)) (placed q)) (queue_apart q n (p + 1) node8 m))))
          refl refl refl refl refl refl
          (ap (λ (z : ℕ). take z (order_in b)) (placed_same e))
          (place_same e)
          (part_set TAKEN 8 q n (p + 1) node8 (let a = r.kept.sized.queues in let c = node8 in omega arith) ∙ rw (add-one p, count_p))
          refl))
          (λ tally. rw (f, next_here x))

      -- the save's last place
      module _ (there : get_or q (PLACE + t) 0 ≡ p) where
        last : place_in q t ≡ p
        last = place_at ∙ there

        pub last_before : Last b q₁ t
        last_before = taking_last.last₁ r n t p node8 save32 count_p next here last

        module _ {b' s' q' : List ℕ} {v : Verdict} (tk : Taken m n t b s q₁ seen w b' s' q' v) where
          pub moves_last : Moves m (taking b s q seen w) (Take n) (taking b' s' q' seen w) (Ok (Took t v))
          moves_last x = taking_last.moves_last r n t p node8 save32 count_p next here last seen w x tk nn

          pub kept_last : Kept m b' s' q'
          kept_last = taking_last.kept_last r n t p node8 save32 count_p next here last tk

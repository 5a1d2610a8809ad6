-- The front entry of a queue by sets of saves is that of the rules' list.
use Prim.Native.Nat.{ℕ, ◌<◌}
use mathlib.Core.Path.{◌≡◌, sym, ap, ◌∙◌}
use mathlib.Core.Bool.{Bool, true, not, ◌&&◌}
use mathlib.Core.List.{List}
use lib.Dec.{ltb}
use Rattle.rules.specs.Table.{any}
use Rattle.rules.specs.State.{at}
use Rattle.rules.specs.Steps.{at_front, x_on}
use Rattle.rules.proofs.Table.{bool, any_cong}
use Rattle.sets.specs.Bit.{bit}
use Rattle.state.specs.View.{part, placed, place_in, order_in, queue_of, queue_x_of, queued, queued_x, claim_in, bare, BEFORE}
use Rattle.state.specs.Fit.{Last, Kept, Ready}
use Rattle.state.proofs.Known.{small, x_entries}
use Rattle.state.proofs.Waiting.{front_any}
use Rattle.queues.specs.Front.{Ranked, fronted}

-- sets with the same members have the same front
pub fronted_same : (q q' : List ℕ) (x x' y y' : ℕ) → part BEFORE 32 q' ≡ part BEFORE 32 q → ((u : ℕ) → u < 64 → bit x' u ≡ bit x u) → ((u : ℕ) → u < 64 → bit y' u ≡ bit y u)
    → fronted q' x' y' ≡ fronted q x y
unfolding fronted
fronted_same q q' x x' y y' p ex ey =
    any_cong 64 (λ u. bit y' u && not (any 64 (λ v. bit x' v && bit (part BEFORE 32 q' u) v))) (λ u. bit y u && not (any 64 (λ v. bit x v && bit (part BEFORE 32 q u) v)))
    (λ u l. rw (ey u l, any_cong 64 (λ v. bit x' v && bit (part BEFORE 32 q' u) v) (λ v. bit x v && bit (part BEFORE 32 q u) v) (λ v h. rw (ex v h, p))))

module _ {m : ℕ} {b s q : List ℕ} (kept : Kept m b s q) (k : ℕ) (h : k < m) where
  listed : (u : ℕ) → queued m q k u ≡ true → Last b q u
  listed u e = kept.queues.listed u k h e

  save : (u : ℕ) → queued m q k u ≡ true → u < 32
  save u e = kept.queues.saves u k h e

  by_place : (u v : ℕ) → queued m q k u ≡ true → queued m q k v ≡ true → bit (part BEFORE 32 q u) v ≡ ltb (place_in q v) (place_in q u)
  by_place u v e f = kept.places.before u v (save u e) (save v f) (listed u e) (listed v f)

  -- saves of a queue stand one behind the other, by their last places
  pub ranked_within : (x : ℕ) → ((u : ℕ) → bit x u ≡ true → queued m q k u ≡ true) → Ranked q x
  ranked_within x w = record {
    rank = place_in q;
    small = λ u e. save u (w u e);
    before = λ u v e f. by_place u v (w u e) (w v f);
    apart = λ u v e f z. sym (listed u (w u e)).1 ∙ ap (at (order_in b)) z ∙ (listed v (w v f)).1;
  }

  pub ranked : Ranked q (queue_of m q k)
  ranked = ranked_within (queue_of m q k) (λ u e. e)

-- the test of the front entry
pub front_code : {m : ℕ} {b s q : List ℕ} → Ready m b s q → (k : ℕ) → k < m
    → fronted q (queue_of m q k) (queue_x_of m q k) ≡ at_front (x_on (bare m b s q).claim k) ((bare m b s q).queue k)
unfolding fronted
front_code {m} {b} {s} {q} r k h =
    any_cong 64 (λ u. queued_x m q k u && not (any 64 (λ v. queued m q k v && bit (part BEFORE 32 q u) v)))
    (λ u. (queued m q k u && x_on (claim_in m s) k u) && not (any 64 (λ v. queued m q k v && ltb (place_in q v) (place_in q u))))
    (λ u l. rw (x_entries r.kept h u) (bool (queued m q k u)
    (λ y. ap (λ (z : Bool). (queued m q k u && x_on (claim_in m s) k u) && not z)
    (any_cong 64 (λ v. queued m q k v && bit (part BEFORE 32 q u) v) (λ v. queued m q k v && ltb (place_in q v) (place_in q u))
    (λ v i. bool (queued m q k v) (λ w. rw (w, by_place r.kept k h u v y w)) (λ w. rw w))))
    (λ y. rw y)))
    ∙ sym (front_any (order_in b) (place_in q) (placed q) (small r) (queued m q k) (listed r.kept k h) (x_on (claim_in m s) k))

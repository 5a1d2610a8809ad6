-- What the parts of a save's joining do to the slices.
use Rattle.std.specs.Prelude.{ℕ, ◌+◌, ◌≤◌, ◌<◌, ◌≡◌, not, ◌&&◌, ◌||◌, ◌≢◌, List, length, get_or, set, eqb}
use Rattle.sets.specs.Bit.{bit, word, blocks}
use Rattle.state.specs.View.{placed, PHASE, FAILED, ORDER, PLACE, PLACED, BEFORE, JOINED, QUEUE, COPIED, WRITTEN, CLAIM, CLAIM_X, rows}

-- in the first n blocks save t claims beside its claim what it has copied, with X what it has written; nothing else has changed
pub record Claimed (n t : ℕ) (s s' : List ℕ) : Type 0 where
  pub long : length s' ≡ length s
  pub claim : (j c : ℕ) → j < n → bit (word s' (CLAIM + t) j) c ≡ (bit (word s (CLAIM + t) j) c || bit (word s (COPIED + t) j) c)
  pub claim_x : (j c : ℕ) → j < n → bit (word s' (CLAIM_X + t) j) c ≡ (bit (word s (CLAIM_X + t) j) c || bit (word s (WRITTEN + t) j) c)
  pub later : (i j : ℕ) → i < rows → n ≤ j → word s' i j ≡ word s i j
  pub rest : (i j : ℕ) → i < rows → i ≢ CLAIM + t → i ≢ CLAIM_X + t → word s' i j ≡ word s i j

-- save t has a place at the end of the order, after all that are placed
pub record Placing (t : ℕ) (b q b' q' : List ℕ) : Type 0 where
  pub long : length q' ≡ length q
  pub order : b' ≡ set b (ORDER + placed q) t
  pub place : get_or q' (PLACE + t) 0 ≡ placed q
  pub more : placed q' ≡ placed q + 1
  pub before : get_or q' (BEFORE + t) 0 ≡ get_or q JOINED 0
  pub joined : (u : ℕ) → bit (get_or q' JOINED 0) u ≡ (bit (get_or q JOINED 0) u || eqb u t)
  pub rest : (i : ℕ) → i ≢ PLACE + t → i ≢ PLACED → i ≢ BEFORE + t → i ≢ JOINED → get_or q' i 0 ≡ get_or q i 0

-- it waits, not failed, in the bytes
abbrev pub waiting : ℕ → List ℕ → List ℕ
waiting t b = set (set b (FAILED + t) 0) (PHASE + t) 2

-- all of these
pub record Joining (m t : ℕ) (b s q b' s' q' : List ℕ) : Type 0 where
  pub claimed : Claimed (blocks m) t s s'
  pub placing : Placing t (waiting t b) q b' q'

-- save t is before none of the saves below n; nothing else has changed
pub record Ahead (n t : ℕ) (q q' : List ℕ) : Type 0 where
  pub long : length q' ≡ length q
  pub before : (u v : ℕ) → u < n → bit (get_or q' (BEFORE + u) 0) v ≡ (bit (get_or q (BEFORE + u) 0) v && not (eqb v t))
  pub rest : (i : ℕ) → ((u : ℕ) → u < n → i ≢ BEFORE + u) → get_or q' i 0 ≡ get_or q i 0

-- it is before none, and not placed
pub record Freed (t : ℕ) (q q' : List ℕ) : Type 0 where
  pub long : length q' ≡ length q
  pub before : (u v : ℕ) → u < 32 → bit (get_or q' (BEFORE + u) 0) v ≡ (bit (get_or q (BEFORE + u) 0) v && not (eqb v t))
  pub joined : (v : ℕ) → bit (get_or q' JOINED 0) v ≡ (bit (get_or q JOINED 0) v && not (eqb v t))
  pub front : (i : ℕ) → i < BEFORE → get_or q' i 0 ≡ get_or q i 0
  pub back : (i : ℕ) → QUEUE ≤ i → get_or q' i 0 ≡ get_or q i 0

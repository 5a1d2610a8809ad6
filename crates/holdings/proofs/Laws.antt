-- A save's line for a sheet by what the sets and tables have there.
use Prim.Native.Nat.{ℕ, zero, suc, ◌+◌, ◌*◌, ◌/◌, ◌%◌, ◌≤◌, ◌<◌}
use mathlib.Core.Path.{◌≡◌, refl, sym, ap, ◌∙◌}
use mathlib.Core.Bool.{Bool, true, false, ◌||◌}
use mathlib.Core.List.{List, [], ◌∷◌, ◌++◌, append-nil}
use native.Mathlib.Omega.{arith}
use lib.ListN.{get_or}
use lib.Dec.{ltb}
use Rattle.rules.specs.State.{State, claims, has_copy}
use Rattle.rules.specs.Report.{line_end}
use Rattle.rules.specs.Table.{any}
use Rattle.rules.specs.Showing.{holding_head, copy_fields, copy_text, holding_line, holding_text, rising}
use Rattle.rules.proofs.Table.{same?, any_none}
use Rattle.sets.specs.Bit.{bit, word, in_row}
use Rattle.state.specs.View.{in_set, COPIED, WRITTEN, CLAIM, CLAIM_X}
use Rattle.state.specs.declared.Session.{Session}
use Rattle.state.specs.Fit.{ReadyIn, Table}
use Rattle.state.proofs.Codes.{copy_code, claims_code}
use Rattle.state.proofs.Parts.{part_in, flat_in}
use Rattle.state.proofs.Rows.{set_row}
use Rattle.holdings.specs.Held.{claim_at, mark_at, Readable, held_by}

pub readable : {x : Session} → ReadyIn x → Table 32 x.m x.value.now → Table 32 x.m x.seen.now → Table 2 x.m x.sheets.now → Readable x
readable r v n w = record { few = r.known.sheets16; reach = r.kept.sized.sets; sets = r.kept.sets; values = v; counters = n; sheets = w }

-- ---- By the sets

module _ {x : Session} (r : Readable x) (t k : ℕ) (th : t < 32) (km : k < x.m) where
  abbrev st : State
  st = held_by x

  abbrev m : ℕ
  m = x.m

  abbrev s : List ℕ
  s = x.sets.now

  row_in : (i : ℕ) → in_set m i s t k ≡ in_row s (i + t) k
  row_in i = set_row m s i th k km

  claim_is : st.claim t k ≡ claim_at s t k
  claim_is = rw (row_in CLAIM, row_in CLAIM_X)

  mark_is : st.mark t k ≡ mark_at s t k
  mark_is = rw (row_in COPIED, row_in WRITTEN)

  claimed : claims (st.claim t k) ≡ in_row s (CLAIM + t) k
  claimed = rw claim_is (claims_code (in_row s (CLAIM + t) k) (in_row s (CLAIM_X + t) k) (λ e. sym (row_in CLAIM) ∙ r.sets.claimed t k (row_in CLAIM_X ∙ e)))

  copied : has_copy (st.mark t k) ≡ in_row s (COPIED + t) k
  copied = rw mark_is (copy_code (in_row s (COPIED + t) k) (in_row s (WRITTEN + t) k) (λ e. sym (row_in COPIED) ∙ r.sets.written t k (row_in WRITTEN ∙ e)))

  -- ---- The copy

  pub no_copy : in_row s (COPIED + t) k ≡ false → copy_text st t k ≡ []
  no_copy e = rw (copied, e)

  pub has_fields : in_row s (COPIED + t) k ≡ true → {v c n : ℕ} → v ≡ get_or x.value.now (t * m + k) 0 → c ≡ get_or x.seen.now (t * m + k) 0 → n ≡ get_or x.sheets.now (1 * m + k) 0
      → copy_fields (record { content = v; wct = c }) (ltb c n) ≡ copy_text st t k
  has_fields y ev ec en =
      let one : 1 * m + k ≡ m + k = omega arith in
      sym (rw (copied, y, flat_in m x.value.now t k km, flat_in m x.seen.now t k km, part_in m m x.sheets.now k km, ← ev, ← ec, en, one))

  -- ---- The line

  module _ {h : Bool} (e : h ≡ (in_row s (CLAIM + t) k || in_row s (COPIED + t) k)) where
    shows : (claims (st.claim t k) || has_copy (st.mark t k)) ≡ h
    shows = rw (claimed, copied, e)

    pub no_line : h ≡ false → holding_text st t k ≡ []
    no_line y = rw (shows, y)

    -- its parts, as they are written
    pub line_of : h ≡ true → holding_head t k (claim_at s t k) (mark_at s t k) ++ copy_text st t k ++ line_end ∷ [] ≡ holding_text st t k
    unfolding holding_line
    line_of y = rw (shows, y, claim_is, mark_is)

-- ---- Where nothing stands

-- texts of nothing from a to b
pub rising_same : (f : ℕ → List ℕ) (a b : ℕ) → a ≤ b → ((i : ℕ) → a ≤ i → i < b → f i ≡ []) → rising f b ≡ rising f a
unfolding rising
rising_same f a zero l h = let e : 0 ≡ a = omega arith in ap (λ (n : ℕ). rising f n) e
rising_same f a (suc b) l h = same? a (suc b)
    (λ e. rw e)
    (λ d. rw (h b (omega arith) (omega arith), append-nil (rising f b)) (rising_same f a b (omega arith) (λ i k o. h i k (omega arith))))

-- a save with nothing in a block has no line there
pub block_empty : {x : Session} (r : Readable x) (t j e : ℕ) → t < 32 → {c d : ℕ} → c ≡ word x.sets.now (CLAIM + t) j → d ≡ word x.sets.now (COPIED + t) j
    → ((i : ℕ) → bit e i ≡ (bit c i || bit d i)) → any 64 (bit e) ≡ false → (k : ℕ) → k < x.m → 64 * j ≤ k → k < 64 * j + 64 → holding_text (held_by x) t k ≡ []
unfolding in_row
block_empty {x} r t j e th ec ed ee none k km l h =
    let kj : k / 64 ≡ j = omega arith in
    let z = any_none 64 _ none (k % 64) (omega arith) in
    let q : false ≡ (in_row x.sets.now (CLAIM + t) k || in_row x.sets.now (COPIED + t) k) = rw kj (rw (ec, ed) at (sym z ∙ ee (k % 64))) in
    no_line r t k th km q refl

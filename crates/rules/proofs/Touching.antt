-- A step at a node is a touch: a plan, made of what the saves and this node hold, carried out on this node's part of the state. What is
-- planned at one node looks at no other node's part, so a touch elsewhere does not change it, and two touches commute. No invariant is
-- needed and no acceptance.
use Prim.Native.Nat.{ℕ, suc}
use mathlib.Core.Path.{◌≡◌, refl, sym, ap, ◌∙◌, fun_ext}
use mathlib.Core.Bool.{Bool, true, false, ◌&&◌, ◌||◌, cond, true≢false, or-false, or_assoc, or_comm}
use mathlib.Core.Logic.{◌≢◌}
use mathlib.Core.List.{List, [], ◌∷◌, ◌++◌}
use mathlib.Core.Option.{Option, none, some, none-ne-some}
use lib.Dec.{eqb}
use borrow.Author.Tests.{eqb-true, eqb-false, ne_eqb, not-true}
use Rattle.rules.specs.Table.{upd, any, first_below}
use Rattle.rules.specs.Bytes.{Command, Begin, Read, Write, Submit, Take, Decide, Apply, GiveUp}
use Rattle.rules.specs.State.{Sheet, store, State, is_committed, is_written, claims}
use Rattle.rules.specs.Steps.{mem, without, owns, next, next_is_last, fails_at, finds_invalid, first_cause, has_entry, check, counted, effect, answer}
use Rattle.rules.specs.Neighbours.{node_of, Untouched, differ, at_two_nodes}
use Rattle.rules.proofs.Table.{bool, clash, same?, upd_same, upd_other, upd_at}

-- ---- The steps at a node

pub data Work : Type 0 where
  take : (n : ℕ) → Work
  apply : (n t : ℕ) → Work

abbrev pub node : Work → ℕ
node (take n) = n
node (apply n t) = n

abbrev pub command : Work → Command
command (take n) = Take n
command (apply n t) = Apply n t

-- a command that is a step at a node is one of these
pub as_work : (P : Command → ℕ → Type 0) → ((w : Work) → P (command w) (node w)) → (c : Command) (n : ℕ) → node_of c ≡ some n → P c n
as_work P f (Begin t) n e = absurd (none-ne-some n e)
as_work P f (Read t k) n e = absurd (none-ne-some n e)
as_work P f (Write t k v) n e = absurd (none-ne-some n e)
as_work P f (Submit t) n e = absurd (none-ne-some n e)
as_work P f (Take m) n e = let z : m ≡ n = cc in rw (← z) (f (take m))
as_work P f (Decide t) n e = absurd (none-ne-some n e)
as_work P f (Apply m t) n e = let z : m ≡ n = cc in rw (← z) (f (apply m t))
as_work P f (GiveUp t) n e = absurd (none-ne-some n e)

-- two commands at two nodes are two such steps
pub at_work : (P : Command → Command → Type 0) → ((v w : Work) → node v ≢ node w → P (command v) (command w)) → (a b : Command) → at_two_nodes a b ≡ true → P a b
at_work P f a b = go (node_of a) (node_of b) refl refl
  where
    go : (x y : Option ℕ) → node_of a ≡ x → node_of b ≡ y → differ x y ≡ true → P a b
    go (some n) (some m) p q e =
        as_work (λ c i. i ≢ m → P c b) (λ v. as_work (λ c j. node v ≢ j → P (command v) c) (λ w. f v w) b m q) a n p (eqb-false n m (not-true (eqb n m) e))
    go (some n) none p q e = clash false e refl
    go none y p q e = clash false e refl

-- ---- Plans and touches

-- which save is marked failed and whether it is, how many places are then taken, and what becomes of each sheet and its queue
pub record Plan : Type 0 where
  pub who : ℕ
  pub found : Bool
  pub far : ℕ → ℕ
  pub queue : ℕ → List ℕ → List ℕ
  pub sheet : ℕ → Sheet → Sheet

abbrev pub plan : State → Work → Plan
plan s (take n) = record {
  who = next s n;
  found = next_is_last s n && finds_invalid s n (next s n);
  far = suc;
  queue = λ k q. cond (next_is_last s n && claims (s.claim (next s n) k)) (q ++ next s n ∷ []) q;
  sheet = λ k c. c;
}
plan s (apply n t) = record {
  who = t;
  found = false;
  far = λ x. x;
  queue = λ k q. without t q;
  sheet = λ k c. cond (is_committed (s.phase t) && is_written (s.mark t k)) (store c (s.copy t k).content) c;
}

-- a table with one place changed by what stands there
abbrev changed : {A : Type 0} → (ℕ → A) → ℕ → (A → A) → ℕ → A
changed f i g = upd f i (g (f i))

abbrev joined : (ℕ → Bool) → ℕ → Bool → ℕ → Bool
joined f t b = changed f t (λ x. x || b)

-- one more command accepted, with all else as in s
abbrev with_nodes : State → (failed : ℕ → Bool) (taken : ℕ → ℕ) (queue : ℕ → List ℕ) (sheet : ℕ → Sheet) → State
with_nodes s failed taken queue sheet = record {
  header = s.header;
  sheet = sheet;
  queue = queue;
  phase = s.phase;
  mark = s.mark;
  copy = s.copy;
  claim = s.claim;
  failed = failed;
  runs = s.runs;
  order = s.order;
  place = s.place;
  taken = taken;
  tally = counted s.tally;
}

abbrev pub touch : State → ℕ → Plan → State
touch s n p =
    with_nodes s (joined s.failed p.who p.found) (changed s.taken n p.far)
    (λ k. cond (owns s n k) (p.queue k (s.queue k)) (s.queue k)) (λ k. cond (owns s n k) (p.sheet k (s.sheet k)) (s.sheet k))

-- ---- Each step at a node is one

upd_none : {A : Type 0} (f : ℕ → A) (i : ℕ) (a : A) → a ≡ f i → upd f i a ≡ f
upd_none f i a e = fun_ext (λ j. upd_at (λ b. b ≡ f j) f i a j (λ q. rw (q, e)) (λ _. refl))

cond_none : {A : Type 0} (b : Bool) (x : A) → cond b x x ≡ x
cond_none true x = refl
cond_none false x = refl

cond_and : {A : Type 0} (a b : Bool) (x y : A) → cond (a && b) x y ≡ cond a (cond b x y) y
cond_and true b x y = refl
cond_and false b x y = refl

pub as_touch : (s : State) (w : Work) → effect s (command w) ≡ touch s (node w) (plan s w)
as_touch s (take n) = bool (next_is_last s n)
    (λ y. rw y (λ i. with_nodes s (joined s.failed (next s n) (finds_invalid s n (next s n))) (changed s.taken n suc)
    (λ k. cond_and (owns s n k) (claims (s.claim (next s n) k)) (s.queue k ++ next s n ∷ []) (s.queue k) i) (λ k. sym (cond_none (owns s n k) (s.sheet k)) i)))
    (λ y. rw y (λ i. with_nodes s (sym (upd_none s.failed (next s n) (s.failed (next s n) || false) (or-false (s.failed (next s n)))) i) (changed s.taken n suc)
    (λ k. sym (cond_none (owns s n k) (s.queue k)) i) (λ k. sym (cond_none (owns s n k) (s.sheet k)) i)))
as_touch s (apply n t) = λ i. with_nodes s (sym (upd_none s.failed t (s.failed t || false) (or-false (s.failed t))) i) (sym (upd_none s.taken n (s.taken n) refl) i)
    (λ k. cond (owns s n k) (without t (s.queue k)) (s.queue k))
    (λ k. cond_and (owns s n k) (is_committed (s.phase t) && is_written (s.mark t k)) (store (s.sheet k) (s.copy t k).content) (s.sheet k) i)

-- the save that a step may mark failed is the one at its node's next place
pub marks_next : (s : State) (w : Work) → (plan s w).found ≡ true → (plan s w).who ≡ next s (node w)
marks_next s (take n) e = refl
marks_next s (apply n t) e = absurd (true≢false (sym e))

joined_off : (f : ℕ → Bool) (i : ℕ) → joined f i false ≡ f
joined_off f i = upd_none f i (f i || false) (or-false (f i))

pub untouched : (s : State) (n : ℕ) (p : Plan) → (p.found ≡ true → p.who ≡ next s n) → Untouched n s (touch s n p)
untouched s n p w = record {
  header = refl;
  phase = refl;
  mark = refl;
  copy = refl;
  claim = refl;
  runs = refl;
  order = refl;
  place = refl;
  failed = λ t d. bool p.found
      (λ e. upd_other s.failed p.who (s.failed p.who || p.found) t (λ z. d (z ∙ w e)))
      (λ e. rw e (ap (λ (f : ℕ → Bool). f t) (joined_off s.failed p.who)));
  still_failed = λ t e. upd_at (λ b. b ≡ true) s.failed p.who (s.failed p.who || p.found) t (λ z. rw (← z, e)) (λ _. e);
  sheet = λ k e. rw e;
  queue = λ k e. rw e;
  taken = λ m d. upd_other s.taken n (p.far (s.taken n)) m d;
}

-- ---- A touch at another node is not seen

not_both : (s : State) (n m k : ℕ) → n ≢ m → owns s m k ≡ true → owns s n k ≡ false
not_both s n m k d e = ne_eqb (s.header.owner k) n (λ z. d (sym z ∙ eqb-true (s.header.owner k) m e))

module _ (s : State) (n : ℕ) (p : Plan) (m : ℕ) (d : n ≢ m) where
  same_taken : (touch s n p).taken m ≡ s.taken m
  same_taken = upd_other s.taken n (p.far (s.taken n)) m (λ e. d (sym e))

  -- a test of each sheet that node m owns
  same_sheets : (f g : ℕ → Bool) → ((k : ℕ) → owns s n k ≡ false → f k ≡ g k) → any s.header.sheets (λ k. owns s m k && f k) ≡ any s.header.sheets (λ k. owns s m k && g k)
  same_sheets f g h = ap (any s.header.sheets) (fun_ext (λ k. bool (owns s m k) (λ e. rw (e, h k (not_both s n m k d e))) (λ e. rw e)))

  same_finding : (t : ℕ) → finds_invalid (touch s n p) m t ≡ finds_invalid s m t
  same_finding t = same_sheets (fails_at (touch s n p) t) (fails_at s t) (λ k e. rw e)

  same_cause : (t : ℕ) → first_cause (touch s n p) m t ≡ first_cause s m t
  same_cause t = ap (first_below s.header.sheets) (fun_ext (λ k. bool (owns s m k) (λ e. rw (e, not_both s n m k d e)) (λ e. rw e)))

  same_entry : (t : ℕ) → has_entry (touch s n p) m t ≡ has_entry s m t
  same_entry t = same_sheets (λ k. mem t ((touch s n p).queue k)) (λ k. mem t (s.queue k)) (λ k e. rw e)

module _ (s : State) (n : ℕ) (p : Plan) where
  pub same_check : (w : Work) → n ≢ node w → check (touch s n p) (command w) ≡ check s (command w)
  same_check (take m) d = rw (same_taken s n p m d)
  same_check (apply m t) d = rw (same_entry s n p m d t)

  pub same_answer : (w : Work) → n ≢ node w → answer (touch s n p) (command w) ≡ answer s (command w)
  same_answer (take m) d = rw (same_cause s n p m d (next (touch s n p) m), same_taken s n p m d)
  same_answer (apply m t) d = refl

  pub same_plan : (w : Work) → n ≢ node w → plan (touch s n p) w ≡ plan s w
  same_plan (take m) d = rw (same_finding s n p m d (next (touch s n p) m), same_taken s n p m d)
  same_plan (apply m t) d = refl

-- ---- Two touches at two nodes

or_swap : (a b c : Bool) → (a || b) || c ≡ (a || c) || b
or_swap a b c = or_assoc a b c ∙ ap (λ x. a || x) (or_comm b c) ∙ sym (or_assoc a c b)

upd_swap : {A : Type 0} (f : ℕ → A) (i j : ℕ) (a b : A) → i ≢ j → upd (upd f i a) j b ≡ upd (upd f j b) i a
upd_swap f i j a b d = fun_ext (λ y. same? y i
    (λ e. rw (e, upd_same (upd f j b) i a, upd_other (upd f i a) j b i d, upd_same f i a))
    (λ z. rw (upd_other (upd f j b) i a y z) (same? y j (λ e. rw (e, upd_same (upd f i a) j b, upd_same f j b))
    (λ w. rw (upd_other (upd f i a) j b y w, upd_other f j b y w, upd_other f i a y z)))))

changed_swap : {A : Type 0} (f : ℕ → A) (i j : ℕ) (g h : A → A) → i ≢ j → changed (changed f i g) j h ≡ changed (changed f j h) i g
changed_swap f i j g h d = rw (upd_other f i (g (f i)) j (λ e. d (sym e)), upd_other f j (h (f j)) i d) (upd_swap f i j (g (f i)) (h (f j)) d)

-- two nodes may mark one save
joined_swap : (f : ℕ → Bool) (t u : ℕ) (a b : Bool) → joined (joined f t a) u b ≡ joined (joined f u b) t a
joined_swap f t u a b = same? t u
    (λ e. rw e (fun_ext (λ y. same? y u
    (λ z. rw (z, upd_same (joined f u a) u (joined f u a u || b), upd_same (joined f u b) u (joined f u b u || a), upd_same f u (f u || a), upd_same f u (f u || b)) (or_swap (f u) a b))
    (λ z. rw (upd_other (joined f u a) u (joined f u a u || b) y z, upd_other (joined f u b) u (joined f u b u || a) y z, upd_other f u (f u || a) y z, upd_other f u (f u || b) y z)))))
    (changed_swap f t u (λ x. x || a) (λ x. x || b))

cond_swap : {A : Type 0} (a b : Bool) (f g : A → A) (x : A) → (b ≡ true → a ≡ false)
    → cond b (g (cond a (f x) x)) (cond a (f x) x) ≡ cond a (f (cond b (g x) x)) (cond b (g x) x)
cond_swap true true f g x d = absurd (true≢false (d refl))
cond_swap true false f g x d = refl
cond_swap false true f g x d = refl
cond_swap false false f g x d = refl

pub touch_swap : (s : State) (n m : ℕ) (p q : Plan) → n ≢ m → touch (touch s n p) m q ≡ touch (touch s m q) n p
touch_swap s n m p q d = λ i.
    with_nodes (with_nodes s s.failed s.taken s.queue s.sheet) (joined_swap s.failed p.who q.who p.found q.found i) (changed_swap s.taken n m p.far q.far d i)
    (λ k. cond_swap (owns s n k) (owns s m k) (p.queue k) (q.queue k) (s.queue k) (not_both s n m k d) i)
    (λ k. cond_swap (owns s n k) (owns s m k) (p.sheet k) (q.sheet k) (s.sheet k) (not_both s n m k d) i)

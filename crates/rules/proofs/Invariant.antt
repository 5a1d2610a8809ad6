-- The invariant: what holds of the state, of the history and of the answered READs after any accepted commands.
-- It comes in parts by what each part reads, so that a part carries over as it stands where a command leaves that alone.
-- Words: t and u are saves, k a sheet, n a node, q a place of the order. `place t` is t's last place. Node n has carried t out
-- once its APPLY n t was accepted, which is what `applied n t` says.
use Prim.Native.Nat.{ℕ, ◌+◌, ◌≤◌, ◌<◌}
use mathlib.Core.Path.{◌≡◌}
use mathlib.Core.Bool.{Bool, true, false, not, ◌&&◌}
use mathlib.Core.List.{List}
use mathlib.Core.Option.{Option, none, some}
use lib.ListN.{length}
use Rattle.rules.specs.Sizes.{max_saves}
use Rattle.rules.specs.State.{Sheet, Phase, unused, first, submitted, second, committed, dropped, Mark, absent, Claim, unclaimed, shared, exclusive, State, is_unused, is_second, is_committed, over, has_copy, is_written, claims, is_x, wide_by, at}
use Rattle.rules.specs.Serial.{History}
use Rattle.rules.proofs.Table.{sum}
use Rattle.rules.proofs.Places.{entries, fold}

-- ---- Kinds of phases

-- the phases of a save that may have a place; SUBMIT gives it, GIVE UP of a first run ends without one
abbrev pub joined : Phase → Bool
joined unused = false
joined first = false
joined submitted = true
joined second = true
joined committed = true
joined dropped = true

-- those that only a save with a place has
abbrev pub needs_place : Phase → Bool
needs_place unused = false
needs_place first = false
needs_place submitted = true
needs_place second = true
needs_place committed = true
needs_place dropped = false

-- DECIDE saw every entry granted
abbrev pub locked : Phase → Bool
locked unused = false
locked first = false
locked submitted = false
locked second = true
locked committed = true
locked dropped = false

-- the claim covers the copies: SUBMIT made it from them, or found them within it
abbrev pub closed : Phase → Bool
closed unused = false
closed first = false
closed submitted = true
closed second = false
closed committed = true
closed dropped = false

-- the claim's size: each wide SUBMIT enlarges it
abbrev pub rank : Claim → ℕ
rank unclaimed = 0
rank shared = 1
rank exclusive = 2

abbrev pub level : ℕ → (ℕ → Claim) → ℕ
level sheets claim = sum sheets (λ k. rank (claim k))

-- runs entered, by phase, with a claim of size z
abbrev pub RunsOf : Phase → (r z : ℕ) → Type 0
RunsOf unused r z = r ≡ 0
RunsOf first r z = r ≡ 1
RunsOf submitted r z = (1 ≤ r) × (r ≤ 1 + z)
RunsOf second r z = (2 ≤ r) × (r ≤ 2 + z)
RunsOf committed r z = r ≤ 2 + z
RunsOf dropped r z = r ≤ 2 + z

-- What a save with failed mark f at place p reads at a node that has taken m places is settled:
-- DECIDE saw its entries granted, or the node's TAKE found it valid.
abbrev pub Sure : Phase → Bool → ℕ → ℕ → Type 0
Sure unused f p m = ⊥
Sure first f p m = ⊥
Sure submitted f p m = (f ≡ false) × (p < m)
Sure second f p m = Unit {0}
Sure committed f p m = Unit {0}
Sure dropped f p m = ⊥

-- t has a place in the order, and stands there
abbrev pub Stands : List ℕ → (ℕ → ℕ) → ℕ → Type 0
Stands order place t = (place t < length order) × (at order (place t) ≡ t)

-- ---- The parts

-- Places. SUBMIT of a first or a wide run adds one at the end, TAKE moves a node on by one.
pub record Places (order : List ℕ) (phase : ℕ → Phase) (place : ℕ → ℕ) (claim : ℕ → ℕ → Claim) (taken : ℕ → ℕ) : Type 0 where
  pub stands : (t : ℕ) → needs_place (phase t) ≡ true → Stands order place t
  pub claim_stands : (t k : ℕ) → claims (claim t k) ≡ true → Stands order place t
  pub claim_joined : (t k : ℕ) → claims (claim t k) ≡ true → joined (phase t) ≡ true
  pub placed : (q : ℕ) → q < length order → joined (phase (at order q)) ≡ true
  pub bound : (n : ℕ) → taken n ≤ length order
  pub small : (t : ℕ) → joined (phase t) ≡ true → t < max_saves

-- Copies and claims. READ and WRITE make copies, SUBMIT turns them into the claim, DECIDE's second run clears them.
pub record Copies (sheets : ℕ) (phase : ℕ → Phase) (mark : ℕ → ℕ → Mark) (claim : ℕ → ℕ → Claim) : Type 0 where
  pub copied_range : (t k : ℕ) → has_copy (mark t k) ≡ true → k < sheets
  pub claim_range : (t k : ℕ) → claims (claim t k) ≡ true → k < sheets
  pub copied_claimed : (t k : ℕ) → closed (phase t) ≡ true → has_copy (mark t k) ≡ true → claims (claim t k) ≡ true
  pub written_x : (t k : ℕ) → closed (phase t) ≡ true → is_written (mark t k) ≡ true → is_x (claim t k) ≡ true
  pub unused_absent : (t k : ℕ) → is_unused (phase t) ≡ true → mark t k ≡ absent

-- Locks.
pub record Locks (owner : ℕ → ℕ) (phase : ℕ → Phase) (place : ℕ → ℕ) (claim : ℕ → ℕ → Claim) (failed : ℕ → Bool) (taken : ℕ → ℕ) (applied : ℕ → ℕ → Bool)
    : Type 0 where
  -- APPLY comes after the outcome and after the TAKE
  pub applied_over : (n t : ℕ) → applied n t ≡ true → over (phase t) ≡ true
  pub applied_taken : (n t : ℕ) → applied n t ≡ true → place t < taken n
  -- a save whose reads are settled: every earlier X there is carried out (TAKE found none in the queue, or DECIDE saw it granted)
  pub settled : (t u k : ℕ) → Sure (phase t) (failed t) (place t) (taken (owner k)) → claims (claim t k) ≡ true
      → place u < place t → is_x (claim u k) ≡ true → applied (owner k) u ≡ true
  -- a granted X: every earlier entry there is carried out
  pub alone : (t u k : ℕ) → locked (phase t) ≡ true → is_x (claim t k) ≡ true → place u < place t → claims (claim u k) ≡ true → applied (owner k) u ≡ true

-- t has an entry at sheet k once its place is taken there
unfoldable pub live : (ℕ → ℕ) → (ℕ → ℕ → Claim) → (ℕ → ℕ → Bool) → ℕ → ℕ → Bool
live owner claim applied k t = claims (claim t k) && not (applied (owner k) t)

-- A queue holds the claimants whose place its node has taken and that are not carried out there, by place: TAKE adds, APPLY removes.
abbrev pub Queues : (owner : ℕ → ℕ) (order : List ℕ) (place : ℕ → ℕ) (claim : ℕ → ℕ → Claim) (taken : ℕ → ℕ) (applied : ℕ → ℕ → Bool) (queue : ℕ → List ℕ) → Type 0
Queues owner order place claim taken applied queue = (k : ℕ) → queue k ≡ entries order place (live owner claim applied k) (taken (owner k))

-- The history and the answered READs agree with the state.
pub record Linked (sheets : ℕ) (order : List ℕ) (place : ℕ → ℕ) (phase : ℕ → Phase) (mark : ℕ → ℕ → Mark) (copy : ℕ → ℕ → Sheet) (claim : ℕ → ℕ → Claim) (runs : ℕ → ℕ) (l : History) (r : ℕ → ℕ → Option ℕ) : Type 0 where
  pub order_same : l.order ≡ order
  pub place_same : l.place ≡ place
  pub claim_same : l.claim ≡ claim
  pub mark_same : l.mark ≡ mark
  pub runs_same : l.runs ≡ runs
  pub commit_same : (t : ℕ) → l.committed t ≡ is_committed (phase t)
  pub last_same : (t k : ℕ) → is_written (mark t k) ≡ true → l.last t k ≡ (copy t k).content
  pub wide_same : (t : ℕ) → is_second (phase t) ≡ true → l.wide t ≡ wide_by sheets (claim t) (mark t)
  pub runs_right : (t : ℕ) → RunsOf (phase t) (runs t) (level sheets (claim t))
  pub unread : (t k : ℕ) → has_copy (mark t k) ≡ false → r t k ≡ none

-- the saves that have stored to sheet k, and those that the serial run has store to it
unfoldable pub storing : State → (ℕ → ℕ → Bool) → ℕ → ℕ → Bool
storing s applied k t = is_committed (s.phase t) && is_written (s.mark t k) && applied (s.header.owner k) t

unfoldable pub stores : State → ℕ → ℕ → Bool
stores s k t = is_committed (s.phase t) && is_written (s.mark t k)

-- sheet k as the saves of test f whose last place is before p leave it
abbrev pub left_by : State → (ℕ → Bool) → ℕ → ℕ → Sheet
left_by s f k p = fold s.order s.place f (λ t. (s.copy t k).content) p

-- sheet k as the serial run shows it to a save at place p
abbrev pub serial_at : State → ℕ → ℕ → Sheet
serial_at s k p = left_by s (stores s k) k p

-- Values.
pub record Values (s : State) (applied : ℕ → ℕ → Bool) (r : ℕ → ℕ → Option ℕ) : Type 0 where
  -- a sheet is what the carried out writers left, by place: each APPLY is the last of them
  pub sheet_is : (k : ℕ) → s.sheet k ≡ left_by s (storing s applied k) k (length s.order)
  -- a copy's WCT is never ahead, and where it is level the content has not changed since the READ
  pub behind : (t k : ℕ) → has_copy (s.mark t k) ≡ true → (s.copy t k).wct ≤ (s.sheet k).wct
  pub current : (t k : ℕ) → has_copy (s.mark t k) ≡ true → (s.copy t k).wct ≡ (s.sheet k).wct → r t k ≡ some (s.sheet k).content
  -- a settled READ answered what the serial run shows
  pub reads : (t k : ℕ) → has_copy (s.mark t k) ≡ true → claims (s.claim t k) ≡ true
      → Sure (s.phase t) (s.failed t) (s.place t) (s.taken (s.header.owner k)) → r t k ≡ some (serial_at s k (s.place t)).content

pub record Inv (s : State) (l : History) (r : ℕ → ℕ → Option ℕ) : Type 0 where
  pub places : Places s.order s.phase s.place s.claim s.taken
  pub copies : Copies s.header.sheets s.phase s.mark s.claim
  pub locks : Locks s.header.owner s.phase s.place s.claim s.failed s.taken l.applied
  pub queues : Queues s.header.owner s.order s.place s.claim s.taken l.applied s.queue
  pub linked : Linked s.header.sheets s.order s.place s.phase s.mark s.copy s.claim s.runs l r
  pub values : Values s l.applied r

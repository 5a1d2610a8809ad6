-- What a session's commands work on: the nodes with their sheets and queues, the saves, the order, the tally.
use Rattle.std.specs.Prelude.{ℕ, zero, suc, Bool, true, false, ◌||◌, cond, List, [], ◌∷◌, ◌++◌, get_or, eqb}
use Rattle.rules.specs.Table.{row, any}
use Rattle.rules.specs.Bytes.{Header}

-- A sheet (document 01's term for an object): its content and its write counter, WCT. A save's own copy of it is a content with the WCT seen.
pub record Sheet : Type 0 where
  pub content : ℕ
  pub wct : ℕ

abbrev pub new_sheet : Sheet
new_sheet = record { content = 0; wct = 0 }

-- A sheet that receives a content: the WCT rises by 1, and "stays" where the content is "equal to the one there" (document 02 [6], which takes back
-- document 01's "also where the content was the same"). APPLY and the serial run both store so.
abbrev pub store : Sheet → ℕ → Sheet
store s v = record { content = v; wct = cond (eqb v s.content) s.wct (suc s.wct) }

-- The phases of a save (document 01's term for a transaction): unused; in its first run (document 01's term), submitted, in a
-- later run, which the papers call its second; committed; dropped (document 01's term), which is by GIVE UP.
pub data Phase : Type 0 where
  unused first submitted second committed dropped : Phase

-- A save's own copy of a sheet in this run: there is none; it was read; it was also written.
pub data Mark : Type 0 where
  absent copied written : Mark

-- The claim (document 01's term for the locks that a save asks for), sheet by sheet: nothing, S (shared) or X (exclusive).
pub data Claim : Type 0 where
  unclaimed shared exclusive : Claim

-- T's figures: commands accepted, saves committed from the first run, from a later one.
pub record Tally : Type 0 where
  pub accepted : ℕ
  pub from_first : ℕ
  pub from_second : ℕ

-- Tables go by number: nodes n, sheets k, saves t.
pub record State : Type 0 where
  pub header : Header
  pub sheet : ℕ → Sheet
  pub queue : ℕ → List ℕ  -- a sheet's entries: saves, first come first; S or X as the save's claim says
  pub phase : ℕ → Phase
  pub mark : ℕ → ℕ → Mark  -- save, sheet
  pub copy : ℕ → ℕ → Sheet  -- save, sheet: the copy, where the mark says that there is one
  pub claim : ℕ → ℕ → Claim  -- save, sheet
  pub failed : ℕ → Bool  -- the save is marked failed
  pub runs : ℕ → ℕ  -- runs entered
  pub order : List ℕ  -- the order (document 01's term), its places: the saves by SUBMIT of a first or of a wide run
  pub place : ℕ → ℕ  -- a save's last place in the order, counted from 0
  pub taken : ℕ → ℕ  -- how many places of the order a node has taken
  pub tally : Tally

-- "At the start every content and WCT is 0, no save is used, the order and all queues are empty, and no node has taken a save."
unfoldable pub fresh : Header → State
fresh h = record {
  header = h;
  sheet = λ k. new_sheet;
  queue = λ k. [];
  phase = λ t. unused;
  mark = λ t k. absent;
  copy = λ t k. new_sheet;
  claim = λ t k. unclaimed;
  failed = λ t. false;
  runs = λ t. 0;
  order = [];
  place = λ t. 0;
  taken = λ n. 0;
  tally = record { accepted = 0; from_first = 0; from_second = 0 };
}

-- ---- Tests

abbrev pub is_unused : Phase → Bool
is_unused unused = true
is_unused first = false
is_unused submitted = false
is_unused second = false
is_unused committed = false
is_unused dropped = false

abbrev pub is_first : Phase → Bool
is_first unused = false
is_first first = true
is_first submitted = false
is_first second = false
is_first committed = false
is_first dropped = false

abbrev pub is_second : Phase → Bool
is_second unused = false
is_second first = false
is_second submitted = false
is_second second = true
is_second committed = false
is_second dropped = false

abbrev pub is_submitted : Phase → Bool
is_submitted unused = false
is_submitted first = false
is_submitted submitted = true
is_submitted second = false
is_submitted committed = false
is_submitted dropped = false

abbrev pub is_committed : Phase → Bool
is_committed unused = false
is_committed first = false
is_committed submitted = false
is_committed second = false
is_committed committed = true
is_committed dropped = false

abbrev pub is_dropped : Phase → Bool
is_dropped unused = false
is_dropped first = false
is_dropped submitted = false
is_dropped second = false
is_dropped committed = false
is_dropped dropped = true

-- a running save: first or a later run
abbrev pub running : Phase → Bool
running p = is_first p || is_second p

-- a save that is over: its outcome, if it has entries, is to be carried out
abbrev pub over : Phase → Bool
over p = is_committed p || is_dropped p

abbrev pub has_copy : Mark → Bool
has_copy absent = false
has_copy copied = true
has_copy written = true

abbrev pub is_written : Mark → Bool
is_written absent = false
is_written copied = false
is_written written = true

abbrev pub claims : Claim → Bool
claims unclaimed = false
claims shared = true
claims exclusive = true

abbrev pub is_x : Claim → Bool
is_x unclaimed = false
is_x shared = false
is_x exclusive = true

-- ---- Claims and copies

-- the copy asks for more than the claim, none < S < X
abbrev pub wider : Claim → Mark → Bool
wider c absent = false
wider unclaimed copied = true
wider shared copied = false
wider exclusive copied = false
wider unclaimed written = true
wider shared written = true
wider exclusive written = false

-- the larger of the two
abbrev pub join_claim : Claim → Mark → Claim
join_claim c absent = c
join_claim unclaimed copied = shared
join_claim shared copied = shared
join_claim exclusive copied = exclusive
join_claim c written = exclusive

-- "joins claim and copies into a new claim": save t's
abbrev pub joined_claim : (ℕ → ℕ → Claim) → (ℕ → ℕ → Mark) → ℕ → ℕ → ℕ → Claim
joined_claim claim mark t = row claim t (λ k. join_claim (claim t k) (mark t k))

-- of m sheets, some copy asks for more than the claim
unfoldable pub wide_by : (m : ℕ) → (ℕ → Claim) → (ℕ → Mark) → Bool
wide_by m claim mark = any m (λ k. wider (claim k) (mark k))

-- save t's run is wide
abbrev pub wide : State → ℕ → Bool
wide s t = wide_by s.header.sheets (s.claim t) (s.mark t)

-- ---- Places

-- the save at a place of the order
abbrev pub at : List ℕ → ℕ → ℕ
at order p = get_or order p 0

-- place q is the last one of its save; else it is a former place
abbrev pub is_last : (order : List ℕ) (place : ℕ → ℕ) → ℕ → Bool
is_last order place q = eqb (place (at order q)) q

-- the saves whose last place is before p, by last place
unfoldable pub by_last : (order : List ℕ) (place : ℕ → ℕ) → (p : ℕ) → List ℕ
by_last order place zero = []
by_last order place (suc p) = cond (is_last order place p) (by_last order place p ++ at order p ∷ []) (by_last order place p)

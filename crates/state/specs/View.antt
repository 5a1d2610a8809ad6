-- The rules' state that the slices show, and the paper's values of each answer.
use Rattle.std.specs.Prelude.{ℕ, zero, suc, ◌+◌, ◌*◌, Bool, true, false, not, ◌&&◌, cond, List, [], get_or, take, drop, eqb, ltb, leb, Result, Ok, Err}
use Rattle.rules.specs.Bytes.{Header}
use Rattle.rules.specs.State.{Phase, unused, first, submitted, second, committed, dropped, Mark, absent, copied, written, Claim, unclaimed, shared, exclusive, Tally, State}
use Rattle.rules.specs.Steps as rules
use Rattle.rules.specs.Steps.{answered, counted, counted_first, counted_second}
use Rattle.rules.proofs.Places.{entries}
use Rattle.sets.specs.Bit.{bit, in_row}
use Rattle.refusals.specs.Numbers.{number_of}
use Rattle.refusals.specs.declared.Refusal.{Refusal}
use Rattle.state.specs.Slices.{Slices, slices}
use Rattle.state.specs.declared.Session.{Session}
use Rattle.state.specs.declared.Rule.{Rule}
use Rattle.state.specs.declared.Rule.TheVariants.{XGranted, XWaiting, CounterBehind}
use Rattle.state.specs.declared.Cause.{Cause}
use Rattle.state.specs.declared.Verdict.{Verdict}
use Rattle.state.specs.declared.Verdict.TheVariants.{Valid, Invalid}
use Rattle.state.specs.declared.Answer.{Answer}
use Rattle.state.specs.declared.Answer.TheVariants.{Accepted, Content, Took, Commits, CommitsLater, SecondRun, Recommits}

-- ---- Numbers and members as the rules' terms

abbrev pub as_phase : ℕ → Phase
as_phase zero = unused
as_phase (suc zero) = first
as_phase (suc (suc zero)) = submitted
as_phase (suc (suc (suc zero))) = second
as_phase (suc (suc (suc (suc zero)))) = committed
as_phase (suc (suc (suc (suc (suc p))))) = dropped

-- what a save of phase p is refused with by a command that this phase does not allow
unfoldable pub out_of_phase : ℕ → ℕ
out_of_phase p = cond (eqb p 0) 13 (cond (leb 4 p) 14 5)

abbrev pub mark_of : (copied written : Bool) → Mark
mark_of c true = written
mark_of true false = copied
mark_of false false = absent

abbrev pub claim_of : (claimed x : Bool) → Claim
claim_of c true = exclusive
claim_of true false = shared
claim_of false false = unclaimed

abbrev pub set? : ℕ → Bool
set? m = not (eqb m 0)

-- ---- Where they stand

-- the bytes: by save
abbrev pub PHASE : ℕ
PHASE = 0

abbrev pub FAILED : ℕ
FAILED = 32

abbrev pub RUNS : ℕ
RUNS = 64

abbrev pub NODES : ℕ
NODES = 96

abbrev pub ORDER : ℕ
ORDER = 97

-- the rows of sets: 32 for each of these, by save, and those of the nodes
abbrev pub COPIED : ℕ
COPIED = 0

abbrev pub WRITTEN : ℕ
WRITTEN = 32

abbrev pub CLAIM : ℕ
CLAIM = 64

abbrev pub CLAIM_X : ℕ
CLAIM_X = 96

abbrev pub HELD : ℕ
HELD = 128

abbrev pub OWNED : ℕ
OWNED = 160

abbrev pub rows : ℕ
rows = 168

-- the numbers of places, and the sets of saves; the last of them by sheet, two each: its queue, and the X in it
abbrev pub PLACE : ℕ
PLACE = 0

abbrev pub TAKEN : ℕ
TAKEN = 32

abbrev pub PLACED : ℕ
PLACED = 40

abbrev pub BEFORE : ℕ
BEFORE = 41

abbrev pub JOINED : ℕ
JOINED = 73

abbrev pub QUEUE : ℕ
QUEUE = 74

-- ---- Tables in slices

-- the `size` numbers from `off` on; a number past them is 0, and not the next table's
unfoldable pub part : (off size : ℕ) → List ℕ → ℕ → ℕ
part off size l i = cond (ltb i size) (get_or l (off + i) 0) 0

-- a table by row and column, m to a row
unfoldable pub flat : (m : ℕ) → List ℕ → ℕ → ℕ → ℕ
flat m l t k = cond (ltb k m) (get_or l (t * m + k) 0) 0

-- sheet k is in the set of row i
unfoldable pub member : (m : ℕ) → List ℕ → (i k : ℕ) → Bool
member m l i k = ltb k m && in_row l i k

-- sheet k is in save t's set
unfoldable pub in_set : (m r : ℕ) → List ℕ → (t k : ℕ) → Bool
in_set m r l t k = ltb t 32 && member m l (r + t) k

-- the owner: the node, of n, in whose set the sheet is
unfoldable pub owner_in : (m : ℕ) → List ℕ → (n k : ℕ) → ℕ
owner_in m l zero k = 0
owner_in m l (suc n) k = cond (member m l (OWNED + n) k) n (owner_in m l n k)

-- ---- The state

-- how many places the order has; the save at each
abbrev pub placed : List ℕ → ℕ
placed q = get_or q PLACED 0

abbrev pub order_in : List ℕ → List ℕ
order_in b = drop ORDER b

-- a save's last place
abbrev pub place_in : List ℕ → ℕ → ℕ
place_in q = part PLACE 32 q

-- sheet k's queue, and the X in it
unfoldable pub queue_of : (m : ℕ) → List ℕ → ℕ → ℕ
queue_of m q k = cond (ltb k m) (get_or q (QUEUE + 2 * k) 0) 0

unfoldable pub queue_x_of : (m : ℕ) → List ℕ → ℕ → ℕ
queue_x_of m q k = cond (ltb k m) (get_or q (QUEUE + 2 * k + 1) 0) 0

-- save u has an entry at sheet k; it is an X
abbrev pub queued : (m : ℕ) → List ℕ → (k u : ℕ) → Bool
queued m q k u = bit (queue_of m q k) u

abbrev pub queued_x : (m : ℕ) → List ℕ → (k u : ℕ) → Bool
queued_x m q k u = bit (queue_x_of m q k) u

abbrev pub header_of : ℕ → (b s : List ℕ) → Header
header_of m b s = record { nodes = get_or b NODES 0; sheets = m; owner = owner_in m s 8 }

abbrev pub claim_in : ℕ → List ℕ → ℕ → ℕ → Claim
claim_in m s t k = claim_of (in_set m CLAIM s t k) (in_set m CLAIM_X s t k)

-- the state of m sheets
abbrev pub shown : ℕ → Slices → Tally → State
shown m x tally = record {
  header = header_of m x.bytes x.sets;
  sheet = λ k. record { content = part 0 m x.sheets k; wct = part m m x.sheets k };
  queue = λ k. entries (order_in x.bytes) (place_in x.queues) (queued m x.queues k) (placed x.queues);
  phase = λ t. as_phase (part PHASE 32 x.bytes t);
  mark = λ t k. mark_of (in_set m COPIED x.sets t k) (in_set m WRITTEN x.sets t k);
  copy = λ t k. record { content = flat m x.value t k; wct = flat m x.seen t k };
  claim = claim_in m x.sets;
  failed = λ t. set? (part FAILED 32 x.bytes t);
  runs = part RUNS 32 x.bytes;
  order = take (placed x.queues) (order_in x.bytes);
  place = place_in x.queues;
  taken = part TAKEN 8 x.queues;
  tally = tally;
}

-- a session's tables, and the state that it shows
abbrev pub tables : Session → Slices
tables x = slices x.bytes.now x.sets.now x.queues.now x.value.now x.seen.now x.sheets.now

abbrev pub shown_by : Session → Tally → State
shown_by x = shown x.m (tables x)

abbrev pub no_tally : Tally
no_tally = record { accepted = 0; from_first = 0; from_second = 0 }

-- the state as far as bytes, sets and queues show it
abbrev pub bare : ℕ → (b s q : List ℕ) → State
bare m b s q = shown m (slices b s q [] [] []) no_tally

-- ---- Answers

-- "X granted, X waiting, counter behind"
abbrev pub rule_of : Rule → rules.Rule
rule_of XGranted = rules.x_granted
rule_of XWaiting = rules.x_waiting
rule_of CounterBehind = rules.counter_behind

-- "sheet and rule"
abbrev pub cause_of : Cause → rules.Cause
cause_of c = rules.cause c.sheet (rule_of c.rule)

-- valid, or invalid with the first cause
abbrev pub verdict_of : Verdict → rules.Verdict
verdict_of Valid = rules.valid
verdict_of (Invalid c) = rules.invalid (cause_of c)

-- the paper's value of each answer
abbrev pub result_of : Answer → rules.Result
result_of Accepted = answered rules.accepted
result_of (Content v) = answered (rules.content_is v)
result_of (Took t v) = answered (rules.took t (verdict_of v))
result_of Commits = answered rules.commits
result_of CommitsLater = answered rules.commits
result_of SecondRun = answered rules.second_run
result_of Recommits = answered rules.accepted

-- the same of a command's result, or its refusal number
abbrev pub result_in : Result Answer Refusal → rules.Result
result_in (Ok a) = result_of a
result_in (Err r) = rules.refused (number_of r)

-- the tally, advanced by an answer
abbrev pub advanced : Tally → Answer → Tally
advanced a Accepted = counted a
advanced a (Content v) = counted a
advanced a (Took t v) = counted a
advanced a Commits = counted_first a
advanced a CommitsLater = counted_second a
advanced a SecondRun = counted a
advanced a Recommits = counted_second a

-- by a command's result: a refusal leaves it
abbrev pub advanced_in : Tally → Result Answer Refusal → Tally
advanced_in a (Ok b) = advanced a b
advanced_in a (Err r) = a

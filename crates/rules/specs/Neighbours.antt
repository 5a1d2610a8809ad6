-- "Neighbouring steps at two nodes": document 02 [3]. "Nodes work independently": a step at a node touches this node's part of the state
-- and no save's phase, and two of them at different nodes may change places.
use Rattle.std.specs.Prelude.{ℕ, ◌≡◌, Bool, true, false, not, ◌&&◌, cond, ◌≢◌, List, [], ◌∷◌, ◌++◌, map, eqb}
use Rattle.std.proofs.Math.Option.{Option, none, some}
use Rattle.rules.specs.Bytes.{Command, Begin, Read, Write, Submit, Take, Decide, Apply, GiveUp, ended, header, opens, reading}
use Rattle.rules.specs.State.{State}
use Rattle.rules.specs.Steps.{owns, next, pass, step, run}
use Rattle.rules.specs.Demand3.{session_commands}
use Rattle.rules.specs.Calls.{stop}
use Rattle.rules.specs.Report.{report}
use Rattle.rules.specs.Writing.{session_bytes, bytes, write, heading, as_step}

-- ---- A step at a node

-- the node that a command is a step at; the others are at none. A later command joins by its line here, and all that follows is then claimed of it.
abbrev pub node_of : Command → Option ℕ
node_of (Begin t) = none
node_of (Read t k) = none
node_of (Write t k v) = none
node_of (Submit t) = none
node_of (Take n) = some n
node_of (Decide t) = none
node_of (Apply n t) = some n
node_of (GiveUp t) = none

-- What a step at node n leaves as it was: the saves, but that the one at the node's next place may be marked failed; the order; and of the other nodes the
-- sheets that they own, these sheets' queues, and how many places they have taken.
pub record Untouched (n : ℕ) (s s' : State) : Type 0 where
  pub header : s'.header ≡ s.header
  pub phase : s'.phase ≡ s.phase
  pub mark : s'.mark ≡ s.mark
  pub copy : s'.copy ≡ s.copy
  pub claim : s'.claim ≡ s.claim
  pub runs : s'.runs ≡ s.runs
  pub order : s'.order ≡ s.order
  pub place : s'.place ≡ s.place
  pub failed : (t : ℕ) → t ≢ next s n → s'.failed t ≡ s.failed t
  pub still_failed : (t : ℕ) → s.failed t ≡ true → s'.failed t ≡ true
  pub sheet : (k : ℕ) → owns s n k ≡ false → s'.sheet k ≡ s.sheet k
  pub queue : (k : ℕ) → owns s n k ≡ false → s'.queue k ≡ s.queue k
  pub taken : (m : ℕ) → m ≢ n → s'.taken m ≡ s.taken m

abbrev pub OneNode : Type 0
OneNode = (s : State) (c : Command) (n : ℕ) → node_of c ≡ some n → Untouched n s (step s c).state

-- ---- Two steps

abbrev pub differ : Option ℕ → Option ℕ → Bool
differ (some n) (some m) = not (eqb n m)
differ (some n) none = false
differ none m = false

-- "two .. TAKE or APPLY steps at different nodes"
abbrev pub at_two_nodes : (a b : Command) → Bool
at_two_nodes a b = differ (node_of a) (node_of b)

-- "either order gives the same two answers, refusals included, and the same state"
pub record EitherOrder (s : State) (a b : Command) : Type 0 where
  pub answer_of_a : (step (step s b).state a).result ≡ (step s a).result
  pub answer_of_b : (step (step s a).state b).result ≡ (step s b).result
  pub state : (step (step s b).state a).state ≡ (step (step s a).state b).state

-- in every state, whether commands lead to it or not
abbrev pub Neighbours : Type 0
Neighbours = (s : State) (a b : Command) → at_two_nodes a b ≡ true → EitherOrder s a b

-- ---- Lists

-- "Repeated swaps of such neighbours": none, one at the front, one further on, one after the other
pub data Swaps : List Command → List Command → Type 0 where
  as_it_was : {cs : List Command} → Swaps cs cs
  swap : (a b : Command) (cs : List Command) → at_two_nodes a b ≡ true → Swaps (a ∷ b ∷ cs) (b ∷ a ∷ cs)
  behind : (c : Command) {cs ds : List Command} → Swaps cs ds → Swaps (c ∷ cs) (c ∷ ds)
  then : {cs ds es : List Command} → Swaps cs ds → Swaps ds es → Swaps cs es

-- of two such lists each comes from the other
abbrev pub SwapsBack : Type 0
SwapsBack = (cs ds : List Command) → Swaps cs ds → Swaps ds cs

-- where the one is accepted whole, so is the other, and the states are equal
abbrev pub SameEnd : Type 0
SameEnd = (s : State) (cs ds : List Command) → Swaps cs ds → (run s cs).end ≡ pass → ((run s ds).end ≡ pass) × ((run s ds).state ≡ (run s cs).state)

-- node n's own steps of a list, in their order
abbrev pub is_at : ℕ → Option ℕ → Bool
is_at n (some m) = eqb m n
is_at n none = false

abbrev pub own_steps : ℕ → List Command → List Command
own_steps n [] = []
own_steps n (c ∷ cs) = cond (is_at n (node_of c)) (c ∷ own_steps n cs) (own_steps n cs)

-- every command of a list is a step at a node
abbrev pub at_some : Option ℕ → Bool
at_some (some n) = true
at_some none = false

abbrev pub at_nodes : List Command → Bool
at_nodes [] = true
at_nodes (c ∷ cs) = at_some (node_of c) && at_nodes cs

-- What such swaps come to, beyond the paper's words: in a stretch of steps at nodes each node's own order is all that counts. Where it is the
-- same, swaps lead from the one to the other.
abbrev pub OwnOrder : Type 0
OwnOrder = (cs ds rest : List Command) → at_nodes cs ≡ true → at_nodes ds ≡ true → ((n : ℕ) → own_steps n cs ≡ own_steps n ds) → Swaps (cs ++ rest) (ds ++ rest)

-- ---- Sessions

-- two sessions with one header whose steps are such lists; all of the second's bytes are steps
pub record SwappedSteps (b b' : List ℕ) : Type 0 where
  pub opened : opens b' ≡ true
  pub one_header : header b' ≡ header b
  pub to_its_end : (reading b').stop ≡ ended
  pub steps : Swaps (session_commands b) (session_commands b')

-- "leave a whole accepted session's report as it was"
abbrev pub SameReport : List ℕ → Type 0
SameReport b = (b' : List ℕ) → stop b ≡ ended → SwappedSteps b b' → (stop b' ≡ ended) × (report b' ≡ report b)

-- Such a session is at hand for every list that swaps lead to: the list, written under the first one's header.
abbrev pub swapped_session : List ℕ → List Command → List ℕ
swapped_session b ds = session_bytes (heading b) (map as_step ds)

pub record WrittenSwapped (b : List ℕ) (ds : List Command) : Type 0 where
  pub written : write (heading b) (map as_step ds) ≡ bytes (swapped_session b ds)
  pub whole : stop (swapped_session b ds) ≡ ended
  pub same_report : report (swapped_session b ds) ≡ report b

-- without a word on the second one's bytes
abbrev pub SwappedReport : List ℕ → Type 0
SwappedReport b = stop b ≡ ended → (ds : List Command) → Swaps (session_commands b) ds → WrittenSwapped b ds

-- The request, as the report's contract has it: for single steps, for lists, and for this session.
pub record SessionNeighbours (b : List ℕ) : Type 0 where
  pub one_node : OneNode
  pub steps : Neighbours
  pub back : SwapsBack
  pub lists : SameEnd
  pub own_order : OwnOrder
  pub reports : SameReport b
  pub written : SwappedReport b

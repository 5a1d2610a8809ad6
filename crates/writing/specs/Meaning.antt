-- What the writer's types and numbers mean in the rules.
use Rattle.std.specs.Prelude.{ℕ, suc, ◌+◌, min, ◌≡◌, List, length, get_or, Result, Ok, Err}
use Rattle.std.proofs.Math.Option.{none, some}
use Rattle.rules.specs.Sizes.{max_session}
use Rattle.rules.specs.Steps.{Checked, pass, refuse}
use Rattle.rules.specs.Writing as rules
use Rattle.refusals.specs.Numbers.{number_of}
use Rattle.refusals.specs.declared.Refusal.{Refusal}
use Rattle.refusals.specs.declared.Refused.{Refused}
use Rattle.wire.specs.Refusing.{refused_at}
use Rattle.forms.specs.Slots.{step}
use Rattle.forms.specs.declared.Kind.{Kind}
use Rattle.writing.specs.declared.Sizes.{Sizes}

abbrev pub heading_of : (nodes sheets : ℕ) → (owners : List ℕ) → rules.Heading
heading_of n m o = record { nodes = n; sheets = m; owners = o }

-- the command of number c where the rules pass its step, else their refusal
abbrev pub PassedAs : (c : ℕ) → Checked → Result Kind Refusal → Type 0
PassedAs c k (Ok kind) = (kind.number ≡ c) × (k ≡ pass)
PassedAs c k (Err why) = k ≡ refuse (number_of why)

-- one more byte than a session may have: it stands for every larger number
abbrev pub too_many : ℕ
too_many = suc max_session

-- the steps' number and bytes, where none is refused
abbrev pub Tested : (nodes sheets : ℕ) → List rules.Instruction → Result Sizes Refused → Type 0
Tested n m is (Ok s) = (rules.steps_refusal n m 0 is ≡ none) × ((s.steps ≡ length is) × (s.bytes ≡ min (length (rules.steps_bytes is)) too_many))
Tested n m is (Err r) = rules.steps_refusal n m 0 is ≡ some (refused_at r)

-- the step at word i
abbrev pub step_in : List ℕ → ℕ → rules.Instruction
step_in ws i = step (get_or ws i 0) (get_or ws (i + 1) 0) (get_or ws (i + 2) 0) (get_or ws (i + 3) 0)

-- the bytes of steps in words
abbrev pub steps_of : List ℕ → List ℕ
steps_of ws = rules.steps_bytes (rules.instructions ws)

-- the bytes of a session
abbrev pub session_of : (nodes sheets : ℕ) → (owners words : List ℕ) → List ℕ
session_of n m o ws = rules.session_bytes (heading_of n m o) (rules.instructions ws)

-- none of the steps is refused, by the counts of some header
abbrev pub Passes : List ℕ → Type 0
Passes ws = (n : ℕ) × ((m : ℕ) × (rules.steps_refusal n m 0 (rules.instructions ws) ≡ none))

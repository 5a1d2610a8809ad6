-- What the reader's types mean in the rules.
use Rattle.std.specs.Prelude.{ℕ, suc, ◌-◌, cond, List, [], ◌∷◌, Some, None, Result, Ok, Err}
use Rattle.std.specs.Prelude as std
use Rattle.std.proofs.Math.Option.{Option, none, some}
use Rattle.rules.specs.Bytes as rules
use Rattle.wire.specs.declared.Command.{Command}
use Rattle.wire.specs.declared.Command.TheVariants.{Begin, Read, Write, Submit, Take, Decide, Apply, GiveUp}
use Rattle.wire.specs.declared.Unread.{Unread}
use Rattle.wire.specs.declared.Unread.TheVariants.{NoCommand, CutShort}
use Rattle.wire.specs.declared.Header.{Header}
use Rattle.refusals.specs.declared.Refusal.{Refusal}
use Rattle.refusals.specs.declared.Refusal.TheVariants as refusal

abbrev pub command_of : Command → rules.Command
command_of (Begin t) = rules.Begin t
command_of (Read t k) = rules.Read t k
command_of (Write t v k) = rules.Write t k v
command_of (Submit t) = rules.Submit t
command_of (Take n) = rules.Take n
command_of (Decide t) = rules.Decide t
command_of (Apply n t) = rules.Apply n t
command_of (GiveUp t) = rules.GiveUp t

-- ---- The front of the rest of a session: none where nothing is left

abbrev pub front_of : Result (std.Option (Command × ℕ)) Unread → Option rules.Front
front_of (Ok (Some (c, z))) = some (rules.whole (command_of c) (z - 1))
front_of (Ok None) = none
front_of (Err NoCommand) = some rules.unknown
front_of (Err CutShort) = some rules.cut

-- 2 and 3
abbrev pub refusal_for : Unread → Refusal
refusal_for NoCommand = refusal.UnknownCommand
refusal_for CutShort = refusal.CutShort

abbrev pub front_in : List ℕ → Option rules.Front
front_in [] = none
front_in (b ∷ bs) = some (rules.front b bs)

-- how many of the n bytes that are left are shown where a run stops at it: the byte that is no command, what is left of one cut short, or the whole command
abbrev pub shown_in : Option rules.Front → (n : ℕ) → ℕ
shown_in none n = 0
shown_in (some rules.unknown) n = 1
shown_in (some rules.cut) n = n
shown_in (some (rules.whole c w)) n = suc w

-- ---- The header

-- nothing is refusal 1
unfoldable pub opened : List ℕ → std.Option Header
opened b = cond (rules.opens b) (Some (record { nodes = rules.byte b 0; sheets = rules.byte b 1 })) None

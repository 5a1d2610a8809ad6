-- A whole session: its header, then its steps; and the call's answers.
use Prim.Native.Nat.{ℕ, ◌+◌, ◌%◌, ◌≤◌, ◌<◌}
use mathlib.Core.Path.{◌≡◌, sym, ap, ◌∙◌}
use mathlib.Core.Bool.{true, false}
use mathlib.Core.List.{List, [], ◌∷◌, ◌++◌, append-nil}
use native.Mathlib.Nat.{mod-eq_of_lt}
use native.Mathlib.Omega.{arith}
use borrow.Author.Tests.{lt-ltb, le-ltb, lt-leb}
use Rattle.std.specs.Prelude.{Ok, Err}
use lib.ListN.{length, take, drop, length-append, length-take, drop_of_length-le}
use Rattle.rules.specs.Writing.{at, heading_fits, Written, bytes, write, write_into, wrote, refuse_with, Call, write_call, instructions}
use Rattle.rules.specs.Sizes.{max_session}
use Rattle.rules.specs.Report.{Filled}
use Rattle.rules.proofs.Writing.{writes}
use Rattle.text.specs.Wrote.{Wrote}
use Rattle.text.proofs.Writing.{wrote_as, wrote_front}
use Rattle.refusals.specs.declared.Refused.{Refused}
use Rattle.wire.specs.Refusing.{refused_at}
use Rattle.writing.specs.declared.Sizes.{Sizes}
use Rattle.writing.specs.Meaning.{heading_of, Tested, steps_of, session_of}
use Rattle.writing.proofs.Headings.{fits_has}

whole_length : (n m : ℕ) (o ws : List ℕ) → length (session_of n m o ws) ≡ 2 + (length o + length (steps_of ws))
whole_length n m o ws = omega (arith, length-append o (steps_of ws))

-- ---- Its parts, one after the other

pub whole_as : (n m : ℕ) (o ws : List ℕ) {l k : List ℕ} {u e : ℕ} → n < 256 → m < 256 → Wrote l 0 ((n % 256 ∷ []) ++ (m % 256 ∷ []) ++ o ++ steps_of ws) u e k → Wrote l 0 (session_of n m o ws) (length (session_of n m o ws)) e k
whole_as n m o ws h k p = wrote_as (rw (mod-eq_of_lt h, mod-eq_of_lt k)) (omega arith) p

-- ---- The answers

module _ (n m : ℕ) (o ws room : List ℕ) where
  abbrev answers : Call → Type 0
  answers c = c ≡ write_call (heading_of n m o) (instructions ws) room

  pub heading_refused : false ≡ heading_fits (heading_of n m o) → answers (record { outcome = refuse_with (at 0 1); room = room })
  unfolding write_call write
  heading_refused e = rw (← e)

  module _ (t : true ≡ heading_fits (heading_of n m o)) where
    f : heading_fits (heading_of n m o) ≡ true
    f = sym t

    count : length o ≡ m
    count = (fits_has n m o f).count

    pub step_refused : (r : Refused) → Tested n m (instructions ws) (Err r) → answers (record { outcome = refuse_with (refused_at r); room = room })
    unfolding write_call write
    step_refused r z = rw (f, z)

    module _ (s : Sizes) (passed : Tested n m (instructions ws) (Ok s)) where
      size_of : 2 + m + s.bytes ≤ max_session → length (session_of n m o ws) ≡ 2 + m + s.bytes
      size_of h = omega (arith, whole_length n m o ws, count, passed.1.1)

      pub too_long : max_session < 2 + m + s.bytes → answers (record { outcome = refuse_with (at s.steps 1); room = room })
      unfolding write_call write
      too_long h =
          let long : max_session < length (session_of n m o ws) = omega (arith, whole_length n m o ws, count, passed.1.1) in
          rw (f, passed.0, lt-leb (length (session_of n m o ws)) max_session long, ← passed.1.0)

      module _ (h : 2 + m + s.bytes ≤ max_session) where
        -- a session that is written if there is room
        into : write_call (heading_of n m o) (instructions ws) room ≡ write_into (bytes (session_of n m o ws)) room
        unfolding write_call
        into = ap (λ (w : Written). write_into w room) (writes (heading_of n m o) (instructions ws) f passed.0 (omega (arith, size_of h)))

        pub no_room : length room < 2 + m + s.bytes → answers (record { outcome = refuse_with (at (2 + m + s.bytes) 15); room = room })
        no_room l =
            let short : length room < length (session_of n m o ws) = omega (arith, size_of h) in
            sym (into ∙ rw (lt-ltb (length room) (length (session_of n m o ws)) short) (ap (λ (x : ℕ). record { outcome = refuse_with (at x 15); room = room }) (size_of h)))

        -- the part of the room that the session takes
        module _ (l : 2 + m + s.bytes ≤ length room) where
          abbrev part : List ℕ
          part = take (2 + m + s.bytes) room

          pub part_fits : length (session_of n m o ws) ≡ length part
          part_fits = size_of h ∙ rw length-take (omega arith)

          pub written : {k : List ℕ} {u : ℕ} → Wrote part 0 (session_of n m o ws) (length (session_of n m o ws)) u k → answers (record { outcome = wrote u; room = k ++ drop (2 + m + s.bytes) room })
          written {k} {u} w =
              let e = wrote_front w (omega (arith, part_fits)) in
              let size : u ≡ length (session_of n m o ws) = ap (λ (x : Filled). x.size) e in
              let filled : length part ≤ length (session_of n m o ws) = omega (arith, part_fits) in
              let all : drop (length (session_of n m o ws)) part ≡ [] = drop_of_length-le part filled in
              let text : k ≡ session_of n m o ws = ap (λ (x : Filled). x.buffer) e ∙ rw all (append-nil (session_of n m o ws)) in
              let rest : k ++ drop (2 + m + s.bytes) room ≡ session_of n m o ws ++ drop (length (session_of n m o ws)) room = rw (← size_of h) (ap (λ (x : List ℕ). x ++ drop (length (session_of n m o ws)) room) text) in
              let long : length (session_of n m o ws) ≤ length room = omega (arith, size_of h) in
              sym (into ∙ rw (le-ltb (length room) (length (session_of n m o ws)) long) (λ i. record { outcome = wrote (sym size i); room = sym rest i }))

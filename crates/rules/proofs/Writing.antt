-- A list written and read, a session read and written: request 2's theorems.
use Prim.Native.Nat.{ℕ, zero, suc, ◌+◌, ◌-◌, ◌*◌, ◌^◌, ◌≤◌, ◌<◌}
use mathlib.Core.Path.{◌≡◌, refl, sym, ap, ◌∙◌}
use mathlib.Core.Bool.{Bool, true, false, ◌&&◌}
use mathlib.Core.List.{List, [], ◌∷◌, ◌++◌, append_assoc, map}
use mathlib.Core.Option.{Option, none, some}
use native.Mathlib.Nat.{add-zero, add-suc, suc-add}
use native.Mathlib.Omega.{arith}
use borrow.Author.Tests.{le-ltb, ltb-true, ltb-false, le-leb, leb-true, eq-eqb, eqb-true}
use lib.Dec.{eqb, leb, ltb}
use lib.ListN.{length, get_or, take, drop, replicate, length-append, length-take, length-drop, take-append-drop}
use lib.Seq.{take_at, drop_at, take-add, drop-drop, drop-nil}
use Rattle.rules.specs.Sizes.{max_nodes, max_sheets, max_session}
use Rattle.rules.specs.Bytes.{Header, byte, header, header_size, in_range, opens, Operand, save, sheet, node, content, width, limit, Command, Begin, Read, Write, Submit, Take, Decide, Apply, GiveUp, Form, commands, form_of, widths, values, whole, front, Step, ended, read_from, reading}
use Rattle.rules.specs.Steps.{Checked, pass, refuse}
use Rattle.rules.specs.Demand3.{session_commands}
use Rattle.rules.specs.Calls.{part_of}
use Rattle.rules.specs.Writing.{Heading, Instruction, header_of, slots, Refusal, at, unless, first_of, heading_fits, zeros, below_limits, operands_fit, form, check_by, check_step, refusal_at, steps_refusal, in_bytes, operand_bytes, step_bytes, steps_bytes, session_bytes, bytes, refused, written_unless, write_refusal, write, heading, Listing, steps, stops, also, numbers, instruction, list_by, list_from, session, refuses, listed_by, read, Bytes, ReadWritten, WrittenRead, OneWriting, OneList, commands_of, ReadRun, as_step, AsSteps, ReadSteps, instructions, step_words, words, Listed, listed, refuse_with, read_into, read_call, write_call, WordsAgain, owners_part, OwnersThere, ThreeCalls}
use Rattle.rules.proofs.Table.{bool, and_l, and_r}
use Rattle.rules.proofs.Numbers.{bytes_drop, bytes_take, in_bytes_length, number_back, bytes_back}

-- ---- The table of commands

abbrev pub All : (Form → Type 0) → List Form → Type 0
All P [] = Unit {0}
All P (f ∷ fs) = P f × All P fs

-- what holds of every line holds of the one found
pub in_table : (P : Form → Type 0) (fs : List Form) → All P fs → (b : ℕ) (f : Form) → form_of b fs ≡ some f → P f
in_table P [] a b f e = absurd (let z : ◌≡◌ {A = ℕ} 0 1 = cc in omega arith)
in_table P (g ∷ fs) a b f e =
    bool (eqb g.number b)
    (λ q. let s : g ≡ f = one (rw q at e) in rw s at a.0)
    (λ q. in_table P fs a.1 b f (rw q at e))
  where
    one : {g f : Form} → some g ≡ some f → g ≡ f
    one e = cc

-- the line that is found has the number asked for
pub number_found : (b : ℕ) (fs : List Form) (f : Form) → form_of b fs ≡ some f → f.number ≡ b
number_found b [] f e = absurd (let z : ◌≡◌ {A = ℕ} 0 1 = cc in omega arith)
number_found b (g ∷ fs) f e = bool (eqb g.number b)
    (λ q. let z : some g ≡ some f = rw q at e in let y : g ≡ f = cc in rw (← y) (eqb-true g.number b q))
    (λ q. number_found b fs f (rw q at e))

pub few_operands : (b : ℕ) (f : Form) → form b ≡ some f → length f.operands ≤ slots
unfolding form
few_operands b f e = in_table (λ f. length f.operands ≤ slots) commands (search arith) b f e

-- ---- Operands

limit_fits : (n m : ℕ) → n ≤ 256 → m ≤ 256 → (o : Operand) → limit n m o ≤ 256 ^ width o
limit_fits n m h k save = omega arith
limit_fits n m h k sheet = omega arith
limit_fits n m h k node = omega arith
limit_fits n m h k content = omega arith

zeros_all : (vs : List ℕ) → zeros vs ≡ true → replicate (length vs) 0 ≡ vs
zeros_all [] e = refl
zeros_all (v ∷ vs) e =
    let z = eqb-true v 0 (and_l (eqb v 0) (zeros vs) e) in
    rw (z, zeros_all vs (and_r (eqb v 0) (zeros vs) e))

pub operand_bytes_length : (os : List Operand) (vs : List ℕ) → length (operand_bytes os vs) ≡ widths os
unfolding operand_bytes
operand_bytes_length [] vs = refl
operand_bytes_length (o ∷ os) vs = rw (length-append, in_bytes_length, operand_bytes_length os (drop 1 vs))

module _ (n m : ℕ) (h : n ≤ 256) (k : m ≤ 256) where
  -- operands below their limits, written and read
  numbers_back : (os : List Operand) (vs rest : List ℕ) → below_limits n m os vs ≡ true → length os ≤ length vs
      → values os (operand_bytes os vs ++ rest) ++ replicate (length vs - length os) 0 ≡ vs
  unfolding operand_bytes
  numbers_back [] vs rest e l =
      let z : length vs - 0 ≡ length vs = omega arith in
      rw z (zeros_all vs e)
  numbers_back (o ∷ os) [] rest e l = absurd (omega arith)
  numbers_back (o ∷ os) (v ∷ vs) rest e l =
      let w = width o in
      let below = ltb-true v (limit n m o) (and_l (ltb v (limit n m o)) (below_limits n m os vs) e) in
      let small : v < 256 ^ w = omega (arith, limit_fits n m h k o) in
      let on = numbers_back os vs rest (and_r (ltb v (limit n m o)) (below_limits n m os vs) e) (omega arith) in
      let d : suc (length vs) - suc (length os) ≡ length vs - length os = omega arith in
      let a = in_bytes w v in
      let b = operand_bytes os vs ++ rest in
      rw (append_assoc, take_at a b w (in_bytes_length w v), drop_at a b w (in_bytes_length w v), number_back w v small, d) (ap (λ (l : List ℕ). v ∷ l) on)

-- operand bytes, read and written
bytes_again : (os : List Operand) (bs more : List ℕ) → Bytes bs → widths os ≤ length bs → operand_bytes os (values os bs ++ more) ≡ take (widths os) bs
unfolding operand_bytes
bytes_again [] bs more h l = refl
bytes_again (o ∷ os) bs more h l =
    let w = width o in
    let long : length (take w bs) ≡ w = rw length-take (omega arith) in
    let on = bytes_again os (drop w bs) more (bytes_drop w bs h) (rw length-drop (omega arith)) in
    rw (bytes_back w (take w bs) (bytes_take w bs h) long, on) (sym (take-add w (widths os) bs))

-- ---- A step

-- operand bytes are passed over
pub list_skip : (n m w p : ℕ) (bs : List ℕ) → list_from n m w p bs ≡ list_from n m 0 (p + w) (drop w bs)
unfolding list_from
list_skip n m zero p bs = rw add-zero
list_skip n m (suc w) p [] = refl
list_skip n m (suc w) p (b ∷ bs) = rw (add-suc, ← suc-add p w) (list_skip n m w (suc p) bs)

-- a step that passes has a line in the table, and operands that fit
passes : {P : Type 0} (n m : ℕ) (i : Instruction) (o : Option Form) → check_by n m o i.operands ≡ pass
    → ((f : Form) → o ≡ some f → operands_fit n m f.operands i.operands ≡ true → P) → P
passes n m i none e on = absurd (let z : ◌≡◌ {A = ℕ} 0 1 = cc in omega arith)
passes n m i (some f) e on =
    bool (operands_fit n m f.operands i.operands) (λ q. on f refl q) (λ q. absurd (clash (rw q at e)))
  where
    clash : refuse 4 ≡ pass → ⊥
    clash e = let z : ◌≡◌ {A = ℕ} 0 1 = cc in omega arith

pub none_first : {P : Type 0} (a b : Option Refusal) → first_of a b ≡ none → (a ≡ none → b ≡ none → P) → P
none_first none b e on = on refl e
none_first (some r) b e on = absurd (let z : ◌≡◌ {A = ℕ} 0 1 = cc in omega arith)

pub none_passes : (p : ℕ) (c : Checked) → refusal_at p c ≡ none → c ≡ pass
none_passes p pass e = refl
none_passes p (refuse n) e = absurd (let z : ◌≡◌ {A = ℕ} 0 1 = cc in omega arith)

-- the first of several steps that pass
pub first_passes : {P : Type 0} (n m q : ℕ) (i : Instruction) (is : List Instruction) → steps_refusal n m q (i ∷ is) ≡ none
    → ((f : Form) → form i.number ≡ some f → operands_fit n m f.operands i.operands ≡ true → steps_refusal n m (suc q) is ≡ none → P) → P
unfolding steps_refusal
first_passes n m q i is e on =
    none_first (refusal_at q (check_step n m i)) (steps_refusal n m (suc q) is) e (λ a b.
    passes n m i (form i.number) (none_passes q (check_step n m i) a) (λ f z fit. on f z fit b))

-- ---- A list written and read

module _ (n m : ℕ) (h : n ≤ 256) (k : m ≤ 256) where
  step_back : (i : Instruction) (p : ℕ) (rest : List ℕ) → check_step n m i ≡ pass → list_from n m 0 p (step_bytes i ++ rest) ≡ also i (list_from n m 0 (p + length (step_bytes i)) rest)
  unfolding list_from
  step_back i p rest e =
      passes n m i (form i.number) e (λ f q fit.
      let os = f.operands in
      let vs = i.operands in
      let three = eqb-true (length vs) slots (and_l (eqb (length vs) slots) (below_limits n m os vs) fit) in
      let few = few_operands i.number f q in
      let below = and_r (eqb (length vs) slots) (below_limits n m os vs) fit in
      let back : numbers os (operand_bytes os vs ++ rest) ≡ vs = rw (← three) (numbers_back n m h k os vs rest below (omega arith)) in
      let bs = operand_bytes os vs ++ rest in
      let size = operand_bytes_length os vs in
      let long : ltb (length bs) (widths os) ≡ false = le-ltb (length bs) (widths os) (rw (length-append, size) (omega arith)) in
      rw (q, long, back, fit, list_skip n m (widths os) (suc p) bs, drop_at (operand_bytes os vs) rest (widths os) size, size, add-suc, suc-add))

  -- steps that pass
  pub steps_back : (is : List Instruction) (p q : ℕ) → steps_refusal n m q is ≡ none → list_from n m 0 p (steps_bytes is) ≡ steps is
  unfolding list_from steps_bytes steps_refusal
  steps_back [] p q e = refl
  steps_back (i ∷ is) p q e =
      none_first (refusal_at q (check_step n m i)) (steps_refusal n m (suc q) is) e (λ a b.
      rw (step_back i p (steps_bytes is) (none_passes q (check_step n m i) a), steps_back is (p + length (step_bytes i)) (suc q) b))

-- ---- A session read and written

stops_none : {P : Type 0} {r : Refusal} {is : List Instruction} → stops r ≡ steps is → P
stops_none e = absurd (let z : ◌≡◌ {A = ℕ} 0 1 = cc in omega arith)

also_inverts : {P : Type 0} (i : Instruction) (l : Listing) {is : List Instruction} → also i l ≡ steps is → ((js : List Instruction) → l ≡ steps js → is ≡ i ∷ js → P) → P
also_inverts i (steps js) e on = on js refl (cc)
also_inverts i (stops r) e on = stops_none e

-- bytes that are listed begin with a step of the table, whole and in range
pub list_inverts : {P : Type 0} (n m b p : ℕ) (o : Option Form) (bs : List ℕ) (next : ℕ → Listing) {is : List Instruction} → list_by n m b p o bs next ≡ steps is
    → ((f : Form) → o ≡ some f → widths f.operands ≤ length bs → operands_fit n m f.operands (numbers f.operands bs) ≡ true
    → (js : List Instruction) → next (widths f.operands) ≡ steps js → is ≡ instruction b f.operands bs ∷ js → P) → P
list_inverts n m b p none bs next e on = stops_none e
list_inverts n m b p (some f) bs next e on =
    let os = f.operands in
    bool (ltb (length bs) (widths os))
    (λ t. stops_none (rw t at e))
    (λ t. bool (operands_fit n m os (numbers os bs))
    (λ u. also_inverts (instruction b os bs) (next (widths os)) (rw (t, u) at e) (on f refl (ltb-false (length bs) (widths os) t) u))
    (λ u. stops_none (rw (t, u) at e)))

module _ (n m : ℕ) where
  list_again : (w p : ℕ) (bs : List ℕ) (is : List Instruction) → Bytes bs → list_from n m w p bs ≡ steps is → (steps_bytes is ≡ drop w bs) × ((q : ℕ) → steps_refusal n m q is ≡ none)
  unfolding list_from steps_bytes steps_refusal
  list_again w p [] is h e = let z : is ≡ [] = cc in rw (z, drop-nil w) (refl, λ q. refl)
  list_again (suc w) p (b ∷ bs) is h e = list_again w (suc p) bs is (λ i. h (suc i)) e
  list_again zero p (b ∷ bs) is h e =
      list_inverts n m b p (form b) bs (λ w. list_from n m w (suc p) bs) e (λ f q long fit js on z.
      let os = f.operands in
      let rest = list_again (widths os) (suc p) bs js (λ i. h (suc i)) on in
      let again = bytes_again os bs (replicate (slots - length os) 0) (λ i. h (suc i)) long in
      rw z (rw (q, again, rest.0, take-append-drop (widths os) bs), λ r. rw (q, fit, rest.1 (suc r))))

-- ---- Headers

-- what a session that opens has
pub record Opened (b : List ℕ) : Type 0 where
  pub size : length b ≤ max_session
  pub fits : header_size b ≤ length b
  pub ranges : in_range (header b) ≡ true

pub opened : (b : List ℕ) → opens b ≡ true → Opened b
opened b e =
    let s = leb (length b) max_session in
    let f = leb (header_size b) (length b) in
    let sf = and_l (s && f) (in_range (header b)) e in
    record { size = leb-true (length b) max_session (and_l s f sf); fits = leb-true (header_size b) (length b) (and_r s f sf); ranges = and_r (s && f) (in_range (header b)) e }

-- the counts of a header in range
pub record Ranged (h : Header) : Type 0 where
  pub some_node : 1 ≤ h.nodes
  pub nodes : h.nodes ≤ max_nodes
  pub some_sheet : 1 ≤ h.sheets
  pub sheets : h.sheets ≤ max_sheets

pub ranged : (h : Header) → in_range h ≡ true → Ranged h
ranged h e =
    let n0 = leb 1 h.nodes in
    let n1 = leb h.nodes max_nodes in
    let m0 = leb 1 h.sheets in
    let m1 = leb h.sheets max_sheets in
    let nm = and_l ((n0 && n1) && (m0 && m1)) _ e in
    let n = and_l (n0 && n1) (m0 && m1) nm in
    let m = and_r (n0 && n1) (m0 && m1) nm in
    record {
      some_node = leb-true 1 h.nodes (and_l n0 n1 n);
      nodes = leb-true h.nodes max_nodes (and_r n0 n1 n);
      some_sheet = leb-true 1 h.sheets (and_l m0 m1 m);
      sheets = leb-true h.sheets max_sheets (and_r m0 m1 m);
    }

-- a header and what stands behind it
two_front : (b : List ℕ) → 2 ≤ length b → byte b 0 ∷ byte b 1 ∷ drop 2 b ≡ b
two_front [] h = absurd (omega arith)
two_front (x ∷ []) h = absurd (omega arith)
two_front (x ∷ y ∷ b) h = refl

-- ---- Inversions

refused_none : {P : Type 0} {r : Refusal} {b : List ℕ} → refused r ≡ bytes b → P
refused_none e = absurd (let z : ◌≡◌ {A = ℕ} 0 1 = cc in omega arith)

unless_none : {P : Type 0} (t : Bool) (r : Refusal) → unless t r ≡ none → (t ≡ true → P) → P
unless_none true r e on = on refl
unless_none false r e on = absurd (let z : ◌≡◌ {A = ℕ} 0 1 = cc in omega arith)

module _ (g : Heading) (is : List Instruction) where
  pub writes : heading_fits g ≡ true → steps_refusal g.nodes g.sheets 0 is ≡ none → length (session_bytes g is) ≤ max_session → write g is ≡ bytes (session_bytes g is)
  unfolding write
  writes e r l = rw (e, r, le-leb (length (session_bytes g is)) max_session l)

  pub write_inverts : {P : Type 0} (b : List ℕ) → write g is ≡ bytes b
      → (heading_fits g ≡ true → steps_refusal g.nodes g.sheets 0 is ≡ none → length (session_bytes g is) ≤ max_session → session_bytes g is ≡ b → P) → P
  unfolding write
  write_inverts {P} b e on = by (write_refusal g is) refl e
    where
      by : (o : Option Refusal) → write_refusal g is ≡ o → written_unless o (session_bytes g is) ≡ bytes b → P
      by (some r) q e = refused_none e
      by none q e =
          let total = leb (length (session_bytes g is)) max_session in
          none_first (unless (heading_fits g) (at 0 1)) _ q (λ u v.
          none_first (steps_refusal g.nodes g.sheets 0 is) (unless total (at (length is) 1)) v (λ w x.
          unless_none (heading_fits g) (at 0 1) u (λ fits.
          unless_none total (at (length is) 1) x (λ small.
          on fits w (leb-true (length (session_bytes g is)) max_session small) (cc)))))

pub read_inverts : {P : Type 0} (b : List ℕ) (g : Heading) (is : List Instruction) → read b ≡ session g is
    → (opens b ≡ true → heading b ≡ g → list_from (byte b 0) (byte b 1) 0 (header_size b) (drop (header_size b) b) ≡ steps is → P) → P
unfolding read
read_inverts {P} b g is e on = bool (opens b) (λ o. by o _ refl (rw o at e)) (λ o. absurd (none_read (rw o at e)))
  where
    none_read : {r : Refusal} → refuses r ≡ session g is → ⊥
    none_read e = let z : ◌≡◌ {A = ℕ} 0 1 = cc in omega arith

    by : opens b ≡ true → (l : Listing) → list_from (byte b 0) (byte b 1) 0 (header_size b) (drop (header_size b) b) ≡ l → listed_by (heading b) l ≡ session g is → P
    by o (steps js) q e = on o (cc) (cc)
    by o (stops r) q e = absurd (none_read e)

-- ---- The theorems

pub read_written : (b : List ℕ) → Bytes b → ReadWritten b
read_written b h g is e =
    read_inverts b g is e (λ o same list.
    let a = opened b o in
    let m = byte b 1 in
    let again = list_again (byte b 0) m 0 (header_size b) (drop (header_size b) b) is (bytes_drop (header_size b) b h) list in
    let owners : length (heading b).owners ≡ m = rw (length-take, length-drop) (omega arith) in
    let whole : session_bytes (heading b) is ≡ b = rw (again.0, ← drop-drop m 2 b, take-append-drop m (drop 2 b)) (two_front b (omega arith)) in
    let fits : heading_fits (heading b) ≡ true = rw (eq-eqb (length (heading b).owners) m owners) a.ranges in
    let small : length (session_bytes (heading b) is) ≤ max_session = omega (arith, ap length whole, a.size) in
    rw (← same) (writes (heading b) is fits (again.1 0) small ∙ ap bytes whole))

pub written_read : (g : Heading) (is : List Instruction) → WrittenRead g is
unfolding read
written_read g is b e =
    write_inverts g is b e (λ fits pass small same.
    let s = session_bytes g is in
    let m = g.sheets in
    let count = eqb (length g.owners) m in
    let owners = eqb-true (length g.owners) m (and_l count (in_range (header_of g)) fits) in
    let ranges = and_r count (in_range (header_of g)) fits in
    let front : take m (g.owners ++ steps_bytes is) ≡ g.owners = take_at g.owners (steps_bytes is) m owners in
    let behind : drop (2 + m) s ≡ steps_bytes is = sym (drop-drop m 2 s) ∙ drop_at g.owners (steps_bytes is) m owners in
    let long : 2 + m ≤ length s = omega (arith, length-append g.owners (steps_bytes is)) in
    let o : opens s ≡ true = rw (le-leb (length s) max_session small, le-leb (2 + m) (length s) long, front) ranges in
    let counts = ranged (header_of g) ranges in
    let nodes : g.nodes ≤ 256 = omega arith in
    let sheets : m ≤ 256 = omega arith in
    rw (← same, o, front, behind, steps_back g.nodes m nodes sheets is (2 + m) 0 pass))

pub one_writing : (g : Heading) (is : List Instruction) → OneWriting g is
one_writing g is b h e = read_written b h g is e

pub one_list : (g : Heading) (is : List Instruction) → OneList g is
one_list g is b h js e f = let z : session g is ≡ session h js = sym (written_read g is b e) ∙ written_read h js b f in (cc, cc)

-- ---- What is read is what is run

padded : (vs : List ℕ) (n i : ℕ) → get_or (vs ++ replicate n 0) i 0 ≡ get_or vs i 0
padded (v ∷ vs) n zero = refl
padded (v ∷ vs) n (suc i) = padded vs n i
padded [] zero i = refl
padded [] (suc n) zero = refl
padded [] (suc n) (suc i) = padded [] n i

-- a command does not look at the numbers behind its operands
unpadded : (b : ℕ) (f : Form) → form b ≡ some f → (vs : List ℕ) (n : ℕ) → f.command (vs ++ replicate n 0) ≡ f.command vs
unfolding form
unpadded b f e = in_table (λ f. (vs : List ℕ) (n : ℕ) → f.command (vs ++ replicate n 0) ≡ f.command vs) commands (λ vs n. simp padded, (λ vs n. simp padded, (λ vs n. simp padded, (λ vs n. simp padded, (λ vs n. simp padded, (λ vs n. simp padded, (λ vs n. simp padded, (λ vs n. simp padded, tt)))))))) b f e

front_at : (b : ℕ) (f : Form) (bs : List ℕ) → form b ≡ some f → widths f.operands ≤ length bs → front b bs ≡ whole (f.command (values f.operands bs)) (widths f.operands)
unfolding form
front_at b f bs e long = rw (e, le-ltb (length bs) (widths f.operands) long)

listed_run : (n m w p : ℕ) (bs : List ℕ) (is : List Instruction) → list_from n m w p bs ≡ steps is → commands_of is ≡ map (λ (s : Step). s.command) (read_from w p bs).steps
unfolding list_from read_from commands_of
listed_run n m w p [] is e = let z : is ≡ [] = cc in rw z
listed_run n m (suc w) p (b ∷ bs) is e = listed_run n m w (suc p) bs is e
listed_run n m zero p (b ∷ bs) is e =
    list_inverts n m b p (form b) bs (λ w. list_from n m w (suc p) bs) e (λ f q long fit js on z.
    let os = f.operands in
    let c = unpadded b f q (values os bs) (slots - length os) in
    let rest = listed_run n m (widths os) (suc p) bs js on in
    rw (z, q, c, rest, front_at b f bs q long))

pub read_run : (b : List ℕ) → ReadRun b
read_run b g is e = read_inverts b g is e (λ o same list. rw (← same) (refl, listed_run (byte b 0) (byte b 1) 0 (header_size b) (drop (header_size b) b) is list))

-- ---- A command as a step

pub as_steps : AsSteps
unfolding form commands_of
as_steps [] = refl
as_steps (c ∷ cs) = go c (as_steps cs)
  where
    go : (c : Command) → commands_of (map as_step cs) ≡ cs → commands_of (as_step c ∷ map as_step cs) ≡ c ∷ cs
    go (Begin t) e = rw e
    go (Read t k) e = rw e
    go (Write t k v) e = rw e
    go (Submit t) e = rw e
    go (Take n) e = rw e
    go (Decide t) e = rw e
    go (Apply n t) e = rw e
    go (GiveUp t) e = rw e

-- it has a number and three more
as_three : (P : Instruction → Type 0) → ((b x y z : ℕ) → P (record { number = b; operands = x ∷ y ∷ z ∷ [] })) → (c : Command) → P (as_step c)
as_three P f (Begin t) = f 1 t 0 0
as_three P f (Read t k) = f 2 t k 0
as_three P f (Write t k v) = f 3 t k v
as_three P f (Submit t) = f 4 t 0 0
as_three P f (Take n) = f 5 n 0 0
as_three P f (Decide t) = f 6 t 0 0
as_three P f (Apply n t) = f 7 n t 0
as_three P f (GiveUp t) = f 8 t 0 0

-- what stands in the bytes is its command's step
as_read : (b : ℕ) (f : Form) → form b ≡ some f → (bs : List ℕ) → as_step (f.command (values f.operands bs)) ≡ instruction b f.operands bs
unfolding form
as_read b f e bs = rw (← number_found b commands f e)
    (in_table (λ f. (bs : List ℕ) → as_step (f.command (values f.operands bs)) ≡ instruction f.number f.operands bs) commands
    (λ bs. refl, (λ bs. refl, (λ bs. refl, (λ bs. refl, (λ bs. refl, (λ bs. refl, (λ bs. refl, (λ bs. refl, tt)))))))) b f e bs)

listed_steps : (n m w p : ℕ) (bs : List ℕ) (is : List Instruction) → list_from n m w p bs ≡ steps is
    → (is ≡ map as_step (map (λ (s : Step). s.command) (read_from w p bs).steps)) × ((read_from w p bs).stop ≡ ended)
unfolding list_from read_from
listed_steps n m w p [] is e = let z : is ≡ [] = cc in rw z (refl, refl)
listed_steps n m (suc w) p (b ∷ bs) is e = listed_steps n m w (suc p) bs is e
listed_steps n m zero p (b ∷ bs) is e =
    list_inverts n m b p (form b) bs (λ w. list_from n m w (suc p) bs) e (λ f q long fit js on z.
    let rest = listed_steps n m (widths f.operands) (suc p) bs js on in
    rw (z, front_at b f bs q long, as_read b f q bs) (ap (λ (l : List Instruction). instruction b f.operands bs ∷ l) rest.0, rest.1))

pub read_steps : (b : List ℕ) → ReadSteps b
read_steps b g is e = read_inverts b g is e (λ o same list. (listed_steps (byte b 0) (byte b 1) 0 (header_size b) (drop (header_size b) b) is list).0)

-- a session that is read has steps to its end
pub read_whole : (b : List ℕ) (g : Heading) (is : List Instruction) → read b ≡ session g is → (reading b).stop ≡ ended
read_whole b g is e = read_inverts b g is e (λ o same list. (listed_steps (byte b 0) (byte b 1) 0 (header_size b) (drop (header_size b) b) is list).1)

-- ---- In words

words_of : (ws : List ℕ) → words (instructions ws) ≡ ws
unfolding words
words_of [] = refl
words_of (c ∷ []) = refl
words_of (c ∷ x ∷ []) = refl
words_of (c ∷ x ∷ y ∷ []) = refl
words_of (c ∷ x ∷ y ∷ z ∷ ws) = ap (λ (l : List ℕ). c ∷ x ∷ y ∷ z ∷ l) (words_of ws)

pub words_again : (g : Heading) (ws : List ℕ) → WordsAgain g ws
unfolding read_call
words_again g ws b room e h = rw (written_read g (instructions ws) b e, words_of ws, le-ltb (length room) (length ws) h)

-- the words of commands' steps, four each, are these steps again
step_words_many : (cs : List Command) → length (words (map as_step cs)) ≡ length (map as_step cs) * step_words
unfolding words
step_words_many [] = refl
step_words_many (c ∷ cs) = as_three (λ i. length (words (i ∷ map as_step cs)) ≡ length (i ∷ map as_step cs) * step_words) (λ b x y z. omega (arith, step_words_many cs)) c

step_words_back : (cs : List Command) → instructions (words (map as_step cs)) ≡ map as_step cs
unfolding words
step_words_back [] = refl
step_words_back (c ∷ cs) = as_three (λ i. instructions (words (i ∷ map as_step cs)) ≡ i ∷ map as_step cs) (λ b x y z. ap (λ (l : List Instruction). record { number = b; operands = x ∷ y ∷ z ∷ [] } ∷ l) (step_words_back cs)) c

-- ---- The host's three calls

pub owners_there : (b : List ℕ) → OwnersThere b
unfolding owners_part
owners_there b o = rw o

-- what a reading's call told: the session that was read, with its words in front
told_read : {P : Type 0} (l : Listed) (room : List ℕ) (n m q : ℕ) → (read_into l room).outcome ≡ listed n m q
    → ((g : Heading) (is : List Instruction) → l ≡ session g is → g.nodes ≡ n → g.sheets ≡ m → length is ≡ q → (read_into l room).room ≡ words is ++ drop (length (words is)) room → P) → P
told_read (refuses r) room n m q e on = absurd (let z : ◌≡◌ {A = ℕ} 0 1 = cc in omega arith)
told_read {P} (session g is) room n m q e on = bool (ltb (length room) (length (words is)))
    (λ t. refused_call (rw t at e))
    (λ t. let z : listed g.nodes g.sheets (length is) ≡ listed n m q = rw t at e in on g is refl (cc) (cc) (cc) (rw t))
  where
    refused_call : {r : Refusal} → refuse_with r ≡ listed n m q → P
    refused_call e = absurd (let z : ◌≡◌ {A = ℕ} 0 1 = cc in omega arith)

pub three_calls : (b : List ℕ) → Bytes b → ThreeCalls b
unfolding read_call write_call
three_calls b h ws room n m q e long = told_read (read b) ws n m q e (λ g is r nodes sheets many front.
    read_inverts b g is r (λ o same _.
    let s = read_steps b g is r in
    let cs = session_commands b in
    let back : instructions (take (q * step_words) (read_into (read b) ws).room) ≡ is =
    rw (front, ← many, s, take_at (words (map as_step cs)) (drop (length (words (map as_step cs))) ws) (length (map as_step cs) * step_words) (step_words_many cs)) (step_words_back cs) in
    let again : write (record { nodes = n; sheets = m; owners = part_of (owners_part b) b }) is ≡ bytes b = rw (← nodes, ← sheets, owners_there b o, ← same) (rw (← same) at (read_written b h g is r)) in
    rw (back, again, le-ltb (length room) (length b) long)))

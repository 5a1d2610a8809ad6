-- A place as far as a code holds it.
use Prim.Native.Nat.{min}
use mathlib.Core.Path.{◌≡◌}
use borrow.Author.Rules.{rules}
use Rattle.codes.specs.Codes.{coded, last_place}
use Rattle.codes.proofs.Laws.{number_told, told_number}
use Rattle.codes.proofs.number_code.Goals as goal

pub returns : goal.returns
returns c =
    let v : c.code.result ≡ coded 7 (min c.args.place last_place) c.args.number = search rules in
    let t = number_told c.args.place c.args.number c.ranges.number.fits v in record {
      value = t.0;
      decoded = t.1;
      answer = λ h. told_number c.args.place c.args.number c.ranges.number.fits h v;
    }

-- Four bytes written over at once.
use mathlib.Core.Path.{refl, ◌∙◌}
use Rattle.text.proofs.Writing.{wrote_length}
use Rattle.writing.proofs.Putting.{four_wrote}
use Rattle.writing.proofs.put_content.Goals as goal

pub returns : goal.returns
returns c =
    let w = c.args.out.now in
    let p = four_wrote w.buf.now _ w.at c.args.v (c.copy_from_slice.ensures.after ∙ c.to_be_bytes.ensures) c.requires in
    record { same = refl; long = wrote_length p; wrote = p }

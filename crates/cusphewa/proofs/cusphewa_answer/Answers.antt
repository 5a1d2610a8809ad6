-- The last command's answer, by its number.
use Rattle.cusphewa.proofs.Laws.{told}
use Rattle.cusphewa.proofs.cusphewa_answer.Goals as goal

pub returns : goal.returns
returns c =
    let all = (told c.args.session.now c.last_answer.result c.last_answer.ensures.answer (c.reply_code.ensures.value, c.reply_code.ensures.decoded)) in record {
      value = all.0;
      decoded = all.1.0;
      why_failed = all.1.1.0;
      ordered = all.1.1.1;
    }

use Rattle.std.proofs.Common.{◌≡◌, ◌++◌, List, ℕ, OnOk, codes, sym, ap, ◌∙◌, subst, append_assoc}
use Rattle.answers.specs.Buffers.{held}
use Rattle.answers.specs.Digits.{word_digits}
use Rattle.answers.specs.Answers.{labelled, reply_text}
use Rattle.answers.proofs.answer.ReplyAnswer.push.Goals as goal

pub returns-in_ok-push_word-in-Read : goal.returns-in_ok-push_word-in-Read
returns-in_ok-push_word-in-Read c =
    let start = held c.args.out.now in
    let price = labelled (codes " price ") c.in-Read.price in
    subst (λ (t : List ℕ). OnOk c.push_labelled.result (held c.push_labelled.new.out ≡ t))
    (ap (λ (t : List ℕ). t ++ price) c.in_ok-push_word-in-Read.ensures
    ∙ append_assoc start (word_digits c.in-Read.word) price
    ∙ ap (λ r. start ++ reply_text r) (sym c.in-Read.is))
    c.push_labelled.ensures

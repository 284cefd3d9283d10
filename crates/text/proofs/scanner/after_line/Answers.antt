use Rattle.std.proofs.Common.{◌+◌, sym, ap, ◌∙◌, arith}
use Rattle.std.proofs.lemmas.List.{take_rest}
use Rattle.std.specs.Option.{option_map}
use Rattle.text.proofs.Cuts.{feed_at, no_feed, no_line_feed, past_line}
use Rattle.text.proofs.scanner.after_line.Goals as goal

pub returns-in_err-end-clause-value : goal.returns-in_err-end-clause-value
returns-in_err-end-clause-value c =
    let text = c.args.text.now in
    ap (option_map (λ x. x.now)) c.from_residual.ensures ∙ sym (no_line_feed text (no_feed text c.in_err-end.ensures))

pub returns : goal.returns
returns c =
    let text = c.args.text.now in
    let end = c.in_ok-end.end in
    let found = c.in_ok-end.ensures in
    let facts = past_line text _ end (feed_at text end found) (omega (arith, found.0.high)) (take_rest text (end + 1)) in
    record { value = facts.next; shorter = omega (arith, facts.shorter) }

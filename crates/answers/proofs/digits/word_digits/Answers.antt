use Rattle.std.proofs.Common.{ap, ◌∙◌}
use Rattle.hex.specs.Hex.{encode_lower}
use Rattle.answers.proofs.Hex.{word_text}
use Rattle.answers.proofs.digits.word_digits.Goals as goal

pub returns : goal.returns
returns c = c.in-Ok.ensures.written ∙ ap encode_lower c.to_be_bytes.ensures ∙ word_text c.args.word c.ranges.word.fits

use Rattle.std.proofs.Common.{◌≡◌, ◌*◌, ◌/◌, ◌%◌, ◌^◌, ap, ◌∙◌, arith}
use Rattle.std.proofs.lemmas.Grind.{common_steps}
use Rattle.ciphers.specs.Aes.{rotated_word, aes_sub_word, rcon, aes_turned}
use Rattle.ciphers.proofs.Turning.{rotated_is, rcon_below}
use Rattle.ciphers.proofs.aes.turn.Goals as goal

pub returns-in-0 : goal.returns-in-0
unfolding aes_turned
returns-in-0 c =
    let j = c.args.i / c.key_words-k.result in
    let word : c.sub_word.result ≡ aes_sub_word (rotated_word c.args.before) =
    c.sub_word.ensures ∙ ap aes_sub_word (c.rotate_left.ensures ∙ rotated_is c.args.before c.ranges.before.fits) in
    let whole : c.round_constant.result * 2 ^ 24 % 2 ^ 32 ≡ rcon j * 2 ^ 24 = omega (arith, c.round_constant.ensures, rcon_below j) in
    grind (arith, common_steps)

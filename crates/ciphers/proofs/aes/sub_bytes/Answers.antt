use Rattle.std.proofs.Common.{[], rules}
use Rattle.std.proofs.lemmas.List.FromFn.{fill_by_all}
use Rattle.ciphers.specs.Bytes.{listed}
use Rattle.ciphers.specs.Field.{aes_s}
use Rattle.ciphers.specs.Aes.{cell, aes_sub_bytes}
use Rattle.ciphers.proofs.aes.sub_bytes.Goals as goal

pub returns : goal.returns
unfolding aes_sub_bytes
returns c =
    fill_by_all (λ k. listed 4 (λ r. aes_s (cell c.args.s r k))) c.map.result 4 [] c.map.ensures.items.long
    (λ k h. let a = c.map.ensures.items.at k [] [] h in search rules)

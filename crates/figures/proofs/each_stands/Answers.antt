use mathlib.Core.Path.{refl}
use Rattle.caches.specs.Layers.{own}
use Rattle.ciphers.specs.Field.{aes_s}
use Rattle.ciphers.specs.Aes.{aes_sub_bytes, aes_mix_column, aes_add_key, aes_after, aes_turned, aes_expanded}
use Rattle.ciphers.specs.Present.{present_s, present_nibbles, present_move, present_after, present_turned, register_after, present_expanded}
use Rattle.ciphers.specs.Counter.{masked_blocks}
use Rattle.figures.proofs.each_stands.Goals as goal

-- each figure computes
pub returns : goal.returns
unfolding own aes_s aes_sub_bytes aes_mix_column aes_add_key aes_after aes_turned aes_expanded present_s present_nibbles present_move present_after present_turned register_after present_expanded masked_blocks
returns c = (refl, (refl, (refl, (refl, (refl, (refl, (refl, (refl, tt))))))))

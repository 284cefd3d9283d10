use Rattle.caches.proofs.Stacking.{misses}
use Rattle.caches.proofs.cache.Cache.read_absent.Goals as goal

pub returns : goal.returns
returns g c =
    let m = c.args.self.now in
    misses _ (g.met.P.Policy.whole m.policy) m.hit.value _ _ _ _ _ _ _ c.requires c.in_ok-word.ensures c.enter.ensures c.through.ensures

use Rattle.caches.proofs.Stacking.{writes}
use Rattle.caches.proofs.cache.Cache.store.Goals as goal

pub returns : goal.returns
returns g c =
    let m = c.args.self.now in
    writes (g.P.Policy.tags m.policy) (g.met.P.Policy.whole m.policy) m.hit.value _ _ _ _ _ _ c.in_ok-price.ensures c.through.ensures

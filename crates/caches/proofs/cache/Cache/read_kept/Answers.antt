use Rattle.caches.proofs.Stacking.{hits}
use Rattle.caches.proofs.cache.Cache.read_kept.Goals as goal

pub returns : goal.returns
returns g c =
    let m = c.args.self.now in
    hits _ (g.met.P.Policy.whole m.policy) m.hit.value _ _ _ _ _ c.requires c.in_ok-word.ensures c.touch.ensures c.cycles.ensures

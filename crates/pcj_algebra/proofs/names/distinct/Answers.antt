use Rattle.std.proofs.lemmas.List.Filters.{dedup_is}
use Rattle.pcj_algebra.proofs.NameLemmas.{are_names}
use Rattle.pcj_algebra.proofs.names.distinct.Goals as goal

pub returns : goal.returns
returns c = are_names c.args.names.items c.sort.new.self.items c.dedup.new.self.items c.sort.ensures.permutation (c.in_ok-sort.ensures {u = tt}).sorted
    (dedup_is _ _ _ c.dedup.ensures.filtered)

use Rattle.pcj_obs_pattern.proofs.RowLemmas.{triple_named}
use Rattle.pcj_obs_pattern.proofs.keys.triple_of.Goals as goal

pub triple_named-requires : goal.triple_named-requires
triple_named-requires c =
    (c.requires.0, c.requires.1, triple_named c.args.key.now c.in_ok-read_key.field-0 c.requires.0 c.requires.1 c.requires.2 c.requires.3 (c.in_ok-read_key.ensures {u = tt}))

pub returns : goal.returns
returns c order triple valid is =
    c.triple_named.ensures order triple (triple_named c.args.key.now c.in_ok-read_key.field-0 order triple valid is (c.in_ok-read_key.ensures {u = tt}))

use Rattle.pcj_obs_pattern.proofs.RowLemmas.{pattern_named}
use Rattle.pcj_obs_pattern.proofs.keys.numbers_of.Goals as goal

pub numbers_named-requires : goal.numbers_named-requires
numbers_named-requires c =
    (c.requires.0, c.requires.1, pattern_named c.args.key.now c.in_ok-read_key.field-0 c.requires.0 c.requires.1 c.requires.2 (c.in_ok-read_key.ensures {u = tt}))

pub returns : goal.returns
returns c registration node is =
    c.numbers_named.ensures registration node (pattern_named c.args.key.now c.in_ok-read_key.field-0 registration node is (c.in_ok-read_key.ensures {u = tt}))

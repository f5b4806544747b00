use Rattle.pcj_patterns.proofs.RangeLaws.{matches_are_in_range, ranges_hold_constants}
use Rattle.pcj_patterns.proofs.laws.ranges_hold_matches.Goals as goal

pub returns-clause-matches : goal.returns-clause-matches
returns-clause-matches c = matches_are_in_range

pub returns-clause-constants : goal.returns-clause-constants
returns-clause-constants c = ranges_hold_constants

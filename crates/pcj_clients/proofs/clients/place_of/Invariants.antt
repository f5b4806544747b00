use Rattle.std.proofs.Common.{◌≡◌, None, take}
use Rattle.pcj_clients.specs.Clients.{job_of}
use Rattle.pcj_clients.proofs.clients.place_of.Given as goal

-- none of those that were looked at is the client
abbrev pub invariant-loop-place : goal.invariant-loop-place
invariant-loop-place l = job_of (take l.place l.busy) l.client ≡ None

-- `trips::calls::hub_call` meets its contract.
-- Assumes nothing.
use Rattle.trips.proofs.calls.hub_call.Goals as goal

pub returns-in-First : goal.returns-in-First
returns-in-First c =
    rw c.in-First.is c.mowqachi_call_list.ensures

pub returns-in-Second : goal.returns-in-Second
returns-in-Second c =
    rw c.in-Second.is c.mowqachi_join.ensures

use Rattle.bm_connections.specs.Seen.{records_of}
use Rattle.bm_connections.proofs.Tabled.{rows_lost, rows_observed, rows_still}
use Rattle.bm_connections.proofs.rows.Rows.observe.Goals as goal

pub observe_arrival-requires-clause-place : goal.observe_arrival-requires-clause-place
observe_arrival-requires-clause-place c =
    c.requires.there c.in-Some.arrival.packet c.in-Some-place_of.place (cc)

pub observe_arrival-requires-clause-room : goal.observe_arrival-requires-clause-room
observe_arrival-requires-clause-room c = c.requires.room c.in-Some-place_of.place

pub returns-in-None : goal.returns-in-None
returns-in-None c stage past rows late cause broke wait =
    rows_still stage (records_of stage) past c.args.event.now c.args.cause c.args.self.now (cc) rows

pub returns-in-None-place_of : goal.returns-in-None-place_of
returns-in-None-place_of c stage past rows late cause broke wait =
    rows_lost stage past c.args.event.now c.args.cause c.in-Some.arrival c.args.self.now (cc) (cc) rows

pub returns-in-Some-place_of : goal.returns-in-Some-place_of
returns-in-Some-place_of c stage past rows late cause broke wait =
    rows_observed stage past c.args.event.now c.args.cause c.args.wait c.in-Some.arrival c.in-Some-place_of.place
    c.facts_of-facts.result c.args.late c.args.self.now c.observe_arrival.new.self (cc) (cc) wait cause broke
    late c.facts_of-facts.ensures c.observe_arrival.ensures.places c.observe_arrival.ensures.risky
    c.observe_arrival.ensures.connections rows

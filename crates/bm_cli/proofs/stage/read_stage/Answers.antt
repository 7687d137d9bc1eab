use Rattle.std.proofs.Common.{Ok, Err, subst}
use Rattle.bm_base.specs.Captures.{IsReplayable}
use Rattle.bm_words.specs.Form.{named}
use Rattle.bm_cli.proofs.Stages.{both_asked, captured_stage, packets_through, script_refused, seats_refused, stage_alone}
use Rattle.bm_cli.proofs.Stages.{stage_began, stage_packets, stage_through}
use Rattle.bm_cli.proofs.Sound.{stage_sound}
use Rattle.bm_cli.specs.declared.fault.StageFault.TheVariants.{Capture as OfCapture}
use Rattle.bm_cli.proofs.stage.read_stage.Goals as goal

pub returns-clause-sound : goal.returns-clause-sound
returns-clause-sound g c =
    stage_sound c.in_ok-worded.worded.script c.in_ok-capture.capture c.in_ok-worded.ensures.sound
    (subst (λ v. IsReplayable v c.in_ok-capture.capture) c.items.ensures c.in_ok-capture.ensures.replayable)

pub returns-in_err-worded-clause-stage : goal.returns-in_err-worded-clause-stage
returns-in_err-worded-clause-stage g c =
    let script = c.in_err-worded in
    stage_through c.args.mode (named c.args.names) _ _ c.from_residual.result script.field-0.0 c.from_residual.ensures.1
    (script_refused c.args.mode (named c.args.names) _ _ _ script.field-0.0 c.requires.script script.ensures.script
    script.ensures.asked script.ensures.all script.ensures.cause script.ensures.kept)

pub returns-in_err-capture-clause-stage : goal.returns-in_err-capture-clause-stage
returns-in_err-capture-clause-stage g c =
    let script = c.in_ok-worded in
    let capture = c.in_err-capture in
    stage_through c.args.mode (named c.args.names) _ _ c.from_residual-in_err-capture.result
    (OfCapture capture.field-0.0) c.from_residual-in_err-capture.ensures.1
    (stage_alone c.args.mode (named c.args.names) _ _ (Err (OfCapture capture.field-0.0)) (λ reads. Unit {0})
    (stage_began c.args.mode (named c.args.names) _ _ (Err (OfCapture capture.field-0.0)) (Err capture.field-0.0) 0 script.worded.verbs
    (captured_stage c.args.mode (named c.args.names) _ _ _ _ _ _ script.worded.script script.worded.verbs _ (Err capture.field-0.0) 0 _
    c.requires.script c.in_ok-check_seats.ensures script.ensures.octets
    c.items.ensures script.ensures.script script.ensures.verbs capture.ensures.capture tt script.ensures.all script.ensures.open capture.ensures.asked
    capture.ensures.all script.ensures.later script.ensures.kept capture.ensures.cause)))

pub returns-clause-stage : goal.returns-clause-stage
returns-clause-stage g c =
    let script = c.in_ok-worded in
    let capture = c.in_ok-capture in
    stage_began c.args.mode (named c.args.names) _ _ _ (Ok (capture.capture, capture.packets)) capture.began script.worded.verbs
    (captured_stage c.args.mode (named c.args.names) _ _ _ _ _ _ script.worded.script script.worded.verbs _ (Ok (capture.capture, capture.packets))
    capture.began _ c.requires.script c.in_ok-check_seats.ensures
    script.ensures.octets c.items.ensures script.ensures.script script.ensures.verbs capture.ensures.capture capture.ensures.began
    script.ensures.all script.ensures.open capture.ensures.asked capture.ensures.all script.ensures.later script.ensures.kept
    capture.ensures.cause)

pub returns-in_err-check_seats-clause-stage : goal.returns-in_err-check_seats-clause-stage
returns-in_err-check_seats-clause-stage g c =
    let script = c.in_ok-worded in
    let seats = c.in_err-check_seats in
    stage_through c.args.mode (named c.args.names) _ _ c.from_residual-in_err-check_seats.result seats.field-0.0
    c.from_residual-in_err-check_seats.ensures.1
    (seats_refused c.args.mode (named c.args.names) _ _ _ script.worded.script seats.field-0.0 c.requires.script
    script.ensures.script seats.ensures script.ensures.all script.ensures.asked script.ensures.kept)

pub returns-in_err-worded-clause-capture : goal.returns-in_err-worded-clause-capture
returns-in_err-worded-clause-capture g c =
    let script = c.in_err-worded in
    packets_through c.args.mode (named c.args.names) _ _ c.from_residual.result script.field-0.0 c.from_residual.ensures.1
    (script_refused c.args.mode (named c.args.names) _ _ _ script.field-0.0 c.requires.script script.ensures.script
    script.ensures.asked script.ensures.all script.ensures.cause script.ensures.kept)

pub returns-in_err-capture-clause-capture : goal.returns-in_err-capture-clause-capture
returns-in_err-capture-clause-capture g c =
    let script = c.in_ok-worded in
    let capture = c.in_err-capture in
    packets_through c.args.mode (named c.args.names) _ _ c.from_residual-in_err-capture.result
    (OfCapture capture.field-0.0) c.from_residual-in_err-capture.ensures.1
    (stage_alone c.args.mode (named c.args.names) _ _ (Err (OfCapture capture.field-0.0)) (λ reads. Unit {0})
    (stage_began c.args.mode (named c.args.names) _ _ (Err (OfCapture capture.field-0.0)) (Err capture.field-0.0) 0 script.worded.verbs
    (captured_stage c.args.mode (named c.args.names) _ _ _ _ _ _ script.worded.script script.worded.verbs _ (Err capture.field-0.0) 0 _
    c.requires.script c.in_ok-check_seats.ensures script.ensures.octets
    c.items.ensures script.ensures.script script.ensures.verbs capture.ensures.capture tt script.ensures.all script.ensures.open capture.ensures.asked
    capture.ensures.all script.ensures.later script.ensures.kept capture.ensures.cause)))

pub returns-clause-capture : goal.returns-clause-capture
returns-clause-capture g c =
    let script = c.in_ok-worded in
    let capture = c.in_ok-capture in
    stage_packets c.args.mode (named c.args.names) _ _ _ (Ok (capture.capture, capture.packets)) capture.began script.worded.verbs
    (captured_stage c.args.mode (named c.args.names) _ _ _ _ _ _ script.worded.script script.worded.verbs _ (Ok (capture.capture, capture.packets))
    capture.began _ c.requires.script c.in_ok-check_seats.ensures
    script.ensures.octets c.items.ensures script.ensures.script script.ensures.verbs capture.ensures.capture capture.ensures.began
    script.ensures.all script.ensures.open capture.ensures.asked capture.ensures.all script.ensures.later script.ensures.kept
    capture.ensures.cause)

pub returns-in_err-check_seats-clause-capture : goal.returns-in_err-check_seats-clause-capture
returns-in_err-check_seats-clause-capture g c =
    let script = c.in_ok-worded in
    let seats = c.in_err-check_seats in
    packets_through c.args.mode (named c.args.names) _ _ c.from_residual-in_err-check_seats.result seats.field-0.0
    c.from_residual-in_err-check_seats.ensures.1
    (seats_refused c.args.mode (named c.args.names) _ _ _ script.worded.script seats.field-0.0 c.requires.script
    script.ensures.script seats.ensures script.ensures.all script.ensures.asked script.ensures.kept)

pub returns-clause-all : goal.returns-clause-all
returns-clause-all g c =
    let script = c.in_ok-worded in
    let capture = c.in_ok-capture in
    both_asked (named c.args.names) _ _ _ _ _ _ _ script.worded.script (capture.capture, capture.packets) script.ensures.all
    script.ensures.kept script.ensures.open capture.ensures.all

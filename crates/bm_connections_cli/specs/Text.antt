-- What is reported of a history's connections (docs/FORMATS.md). A clock is when record 1 was
-- captured, if moments are those of the wall clock; verbs are what the script's commands say that
-- they change.
use Rattle.std.specs.Prelude.{ℕ, List, [], ◌∷◌, ◌++◌, Option, flat_map}
use Rattle.bm_core.specs.declared.events.History.{History}
use Rattle.bm_script.specs.declared.verbs.ChangeVerb.{ChangeVerb}
use Rattle.bm_connections.specs.declared.compared.Compared.{Compared}
use Rattle.bm_connections.specs.AfterEnd.{after_end, after_end_text}
use Rattle.bm_connections.specs.Base.{compared}
use Rattle.bm_connections.specs.Connections.{connections}
use Rattle.bm_connections.specs.Counts.{causes_in, server_counts}
use Rattle.bm_connections.specs.Copies.{copies, copies_text}
use Rattle.bm_connections.specs.Late.{longest_late}
use Rattle.bm_connections.specs.Needed.{needed_changes, needed_servers}
use Rattle.bm_connections.specs.NeededText.{changes_text as needed_text, servers_text as retired_text}
use Rattle.bm_connections.specs.NeededText.{thrice_text}
use Rattle.bm_connections.specs.OpenEnds.{open_count, open_end_line, open_ends}
use Rattle.bm_connections.specs.Thrice.{moved_thrice}
use Rattle.bm_connections.specs.Unsteered.{unsteered, unsteered_text}
use Rattle.bm_trace.specs.Report.{note_line}
use Rattle.bm_connections.specs.Answers.{answer_line, answer_of}
use Rattle.bm_connections.specs.Text.{cause_line, late_text, server_line, table_text}
use Rattle.bm_drawing.specs.Drawing.{drawing}
use Rattle.bm_lifetime.specs.Lifetime.{lifetime}
use Rattle.bm_connections_words.specs.declared.options.Format.{Format}
use Rattle.bm_connections_words.specs.declared.options.Format.TheVariants.{Lines, Csv, Json, Svg}
use Rattle.bm_connections_cli.specs.Replies.{replies_text}
use Rattle.bm_connections_cli.specs.Advice.{advice_line, end_lines, nothing_line, open_line}
use Rattle.bm_connections_cli.specs.Changes.{changes_text}
use Rattle.bm_connections_cli.specs.Outlived.{outlived_text}
use Rattle.bm_connections_cli.specs.Csv.{table_csv}
use Rattle.bm_connections_cli.specs.Json.{json_lines}
use Rattle.bm_connections_cli.specs.Servers.{servers_of}

-- a line for each server of the script
abbrev pub server_lines : History → List ℕ
server_lines h = flat_map server_line (server_counts h (servers_of h.stage.script))

-- a line for each cause that occurs
abbrev pub cause_lines : History → List ℕ
cause_lines h = flat_map cause_line (causes_in h)

-- the longest late wait and its timeout, if a packet came too late
abbrev pub late_lines : History → List ℕ
late_lines h = late_text (longest_late h)

-- a line of advice for each cause that occurs
abbrev pub advice_lines : History → List ℕ
advice_lines h = flat_map (λ c. advice_line c.cause) (causes_in h)

-- the answer, the connections and the servers
abbrev pub table_parts : Option ℕ → History → List Compared → List (List ℕ)
table_parts clock h cs =
    answer_line
    (answer_of (connections h) cs (open_count h.stage (connections h)) (longest_late h))
    ∷ table_text clock h.stage.script.setting.racks cs ∷ server_lines h ∷ []

-- the changes, what they allow, how long they need the old servers, and which connections after them
-- are left open
abbrev pub change_parts : Option ℕ → List ChangeVerb → History → List (List ℕ)
change_parts clock verbs h =
    changes_text clock h.stage.script.setting.racks h.stage.script.plan verbs
    ∷ outlived_text (lifetime h.stage.script) (connections h)
    ∷ needed_text clock (needed_changes h)
    ∷ flat_map open_end_line (open_ends h.stage (connections h)) ∷ []

-- what the servers replied to commands, and how long they were needed after they retired
abbrev pub reply_parts : Option ℕ → History → List (List ℕ)
reply_parts clock h =
    replies_text clock h.events
    ∷ retired_text clock (needed_servers h (servers_of h.stage.script)) ∷ []

-- the causes of what broke, what came too late, what moved three times, and what comes after its
-- connection's end
abbrev pub cause_parts : History → List (List ℕ)
cause_parts h =
    cause_lines h ∷ late_lines h ∷ thrice_text (moved_thrice h) ∷ after_end_text (after_end h) ∷ []

-- what isn't steered, and whether the capture is cut short
abbrev pub capture_parts : History → List (List ℕ)
capture_parts h =
    unsteered_text (unsteered h.stage.capture) ∷ note_line h.stage.capture.cut ∷ []

-- what to do about causes, and about connections that are left open
abbrev pub advice_parts : History → List (List ℕ)
advice_parts h = advice_lines h ∷ open_line (open_count h.stage (connections h)) ∷ []

-- what to do about the capture
abbrev pub capture_advice : History → List (List ℕ)
capture_advice h =
    copies_text (copies h.stage.capture) ∷ nothing_line (connections h) ∷ end_lines h.stage ∷ []

-- what became of connections, servers and changes
abbrev pub outcome_parts : Option ℕ → List ChangeVerb → History → List Compared → List (List ℕ)
outcome_parts clock verbs h cs =
    table_parts clock h cs ++ change_parts clock verbs h ++ reply_parts clock h

-- why, and what to do
abbrev pub reason_parts : History → List (List ℕ)
reason_parts h = cause_parts h ++ capture_parts h ++ advice_parts h ++ capture_advice h

-- what is reported in lines, part by part, of a history and of its connections
abbrev pub parts : Option ℕ → List ChangeVerb → History → List Compared → List (List ℕ)
parts clock verbs h cs = outcome_parts clock verbs h cs ++ reason_parts h

-- what is reported in each format
abbrev pub report : Format → Option ℕ → List ChangeVerb → History → List Compared → List ℕ
report Lines clock verbs h cs = flat_map (λ part. part) (parts clock verbs h cs)
report Csv clock verbs h cs = table_csv clock h.stage.script.setting.racks cs
report Json clock verbs h cs = json_lines clock h.stage.script.setting.racks cs
report Svg clock verbs h cs = drawing clock h (connections h)

-- what is reported of a history, by one of its base
abbrev pub text : Format → Option ℕ → List ChangeVerb → History → History → List ℕ
text format clock verbs h base = report format clock verbs h (compared h base)

-- The ends of a packet's copies as the code keeps them.
use Rattle.std.specs.Prelude.{ℕ, List, [], ◌∷◌, ◌++◌, Option, Some, None, codes, decimal}
use Rattle.bm_base.specs.declared.capture.Body.{Body}
use Rattle.bm_base.specs.declared.capture.Body.TheVariants.{Steerable, Unsteered}
use Rattle.bm_trace.specs.declared.records.End.{End}
use Rattle.bm_trace.specs.declared.records.End.TheVariants.{Lost, Accepted, Processed, Reset}
use Rattle.bm_trace.specs.declared.records.End.TheVariants.{Dropped}
use Rattle.bm_trace.specs.Words.{reason_word}

abbrev pub words_of_end : End → List (List ℕ)
words_of_end Lost = codes "lost" ∷ []
words_of_end (Accepted server) = codes "accepted" ∷ decimal server.0 ∷ []
words_of_end (Processed server) = codes "processed" ∷ decimal server.0 ∷ []
words_of_end (Reset server) = codes "reset" ∷ decimal server.0 ∷ []
words_of_end (Dropped server) = codes "dropped" ∷ decimal server.0 ∷ []

abbrev pub words_of_option : Option End → List (List ℕ)
words_of_option None = []
words_of_option (Some end) = words_of_end end

abbrev pub words_of_ends : List End → List (List ℕ)
words_of_ends [] = []
words_of_ends (end ∷ ends) = words_of_end end ++ words_of_ends ends

abbrev pub words_of_record : Body → List End → List (List ℕ)
words_of_record (Unsteered reason) ends = codes "unsteered" ∷ reason_word reason ∷ []
words_of_record (Steerable s) ends = words_of_ends ends

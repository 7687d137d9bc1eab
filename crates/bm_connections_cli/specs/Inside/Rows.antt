-- What a writer of CSV has written, for the proofs of bodies.
use Rattle.std.specs.Prelude.{◌≡◌, ℕ, List, Option, Some, false}
use Rattle.csv.specs.Writing.{default_writer, fields_written, has_written, text_written}
use Rattle.csv.specs.Writing.{writer_setup}
use Rattle.csv.specs.declared.writer.Writer.{Writer}

-- a writer with the default setup has written these octets, in whole records
pub record HasWritten {W : Type 0} (contents : W → Option (List ℕ)) (w : Writer W)
    (octets : List ℕ) : Type 0 where
  pub setup : writer_setup w ≡ default_writer
  pub fields : fields_written w ≡ 0
  pub blank : has_written w ≡ false
  pub text : text_written contents w ≡ Some octets

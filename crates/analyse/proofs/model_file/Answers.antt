use Rattle.files.specs.declared.limits.TheConstants.{LOOKED_AT}
use Rattle.analyse.proofs.Input.{front_read}
use Rattle.analyse.proofs.model_file.Goals as goal

pub returns : goal.returns
returns g c = front_read g.R.Read.remaining c.take.result c.args.input LOOKED_AT c.new-model.result.items c.read_to_end.new.buf.items c.take.ensures.inner c.take.ensures.limit c.new-model.ensures.items c.in_ok-read_to_end.ensures.bytes

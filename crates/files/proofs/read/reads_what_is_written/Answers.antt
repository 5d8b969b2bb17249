use Rattle.files.proofs.Bytes.{file_kind_of, file_weighing_of}
use Rattle.files.proofs.Reading.{reads_back, reads_one_way}
use Rattle.files.proofs.read.reads_what_is_written.Goals as goal

pub returns : goal.returns
returns g c = record {
  reads_back = reads_back _ _ _ _ (file_kind_of g.met.P.FilePerformance) (file_weighing_of g.met.W.FileWeight);
  reads_one_way = reads_one_way _ _ _ _ (file_kind_of g.met.P.FilePerformance) (file_weighing_of g.met.W.FileWeight);
}

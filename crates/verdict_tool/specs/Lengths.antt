-- What the verdict program lends to the call: buffers of the lengths laid down, and one for its lines.
use Rattle.std.specs.Prelude.{◌≤◌, ℕ, ◌≡◌}
use Rattle.table.specs.Bounds.{bench_limits}
use Rattle.workspace.specs.Prepare.{work_size}
use Rattle.subsumption.specs.Verdict.{evidence_size}
use Rattle.verdict_lines.specs.Gathering.{output_size}

pub record Lengths (work result out : ℕ) : Type 0 where
  pub work_long : work ≡ work_size bench_limits
  pub result_long : result ≡ evidence_size bench_limits
  pub out_long : output_size ≤ out

-- What a refusal hands back. All of it is ours.
use Rattle.area_swap.specs.Values.{SeatValue}
use Rattle.worker_gate.specs.declared.worker.WorkerError.{WorkerError}
use Rattle.worker_gate.specs.declared.worker.WorkerError.TheVariants as worker_error

abbrev pub seat_of : WorkerError → SeatValue
seat_of (worker_error.OutOfMemory seat) = seat

-- Frames of functions and of calls.
use Rattle.record_replay_spec.specs.Order.{OrderFrame, InFunction, InCall}
use Rattle.hook_order.specs.declared.frames.Frame.{Frame}
use Rattle.hook_order.specs.declared.frames.Frame.TheVariants.{Function, Call}

-- the order's frame that a frame represents
abbrev pub frame_of : Frame → OrderFrame
frame_of (Function func) = InFunction func
frame_of (Call direct callee entered) = InCall direct callee entered

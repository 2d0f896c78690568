-- What contracts see of what was served.
use Rattle.capture_recorder.specs.Gathering.{lists_of}
use Rattle.capture_serve.specs.declared.serving.Capture.{Capture}
use Rattle.capture_serve.specs.Service.{CaptureView}

abbrev pub capture_of : Capture → CaptureView
capture_of capture = record { connections = capture.connections; short = capture.short; calls = capture.calls; sessions = lists_of capture.sessions }

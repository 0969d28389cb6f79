mod WorkedSession
